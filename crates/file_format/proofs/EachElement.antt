-- What a loop finds of each element, and what is so known of all.
use Rattle.std.proofs.Common.{◌≡◌, ◌<◌, ◌≤◌, ◌+◌, ℕ, zero, suc, List, [], ◌∷◌, length, get_or, Some}
use Rattle.std.proofs.Common.{Result, Ok, Err, refl, subst, ◌∙◌, arith, below_more, take, drop}
use Rattle.std.specs.Prelude.{OnOk}
use Rattle.std.specs.List.{slice_get}
use Rattle.std.proofs.lemmas.Option.{slice_get_within, get_or_from_slice_get}
use Rattle.tag.specs.declared.numbers.OpId.{OpId}
use Rattle.file_format.specs.Ranges.{IsOp, AreOps}

-- each element before the place has it
abbrev pub AllBefore : {X : Type 0} → (X → Type 0) → List X → ℕ → Type 0
AllBefore {X} P xs i = (k : ℕ) → k < i → (x : X) → slice_get xs k ≡ Some x → P x

-- and so has the one at the place
pub before_more : {X : Type 0} (P : X → Type 0) (xs : List X) (i : ℕ) (x : X) → x ≡ get_or xs i x → P x → AllBefore P xs i
    → AllBefore P xs (i + 1)
before_more {X} P xs i x at here before =
    let Q : ℕ → Type 0 = λ k. (y : X) → slice_get xs k ≡ Some y → P y in
    below_more Q i before (λ y e. subst P (at ∙ get_or_from_slice_get xs i y x e) here)

pub before_next : {X : Type 0} (P : X → Type 0) (xs : List X) (i : ℕ) (d : X) → P (get_or xs i d) → AllBefore P xs i
    → AllBefore P xs (i + 1)
before_next {X} P xs i d here before =
    let Q : ℕ → Type 0 = λ k. (y : X) → slice_get xs k ≡ Some y → P y in
    below_more Q i before (λ y e. subst P (get_or_from_slice_get xs i y d e) here)

-- each element has it, once the place is the end
pub before_all : {X : Type 0} (P : X → Type 0) (xs : List X) (i : ℕ) → length xs ≤ i → AllBefore P xs i → (k : ℕ) (x : X)
    → slice_get xs k ≡ Some x → P x
before_all P xs i le before k x e = let within : k < length xs = slice_get_within xs k x e in before k (omega arith) x e

ops_first : (op : OpId) (ops : List OpId) → IsOp op → AreOps ops → AreOps (op ∷ ops)
ops_first op ops one more zero other e = let same : op ≡ other = cc in subst IsOp same one
ops_first op ops one more (suc k) other e = more k other e

-- the first calls are in range, and those after them
pub ops_both : (n : ℕ) (ops : List OpId) → AreOps (take n ops) → AreOps (drop n ops) → AreOps ops
ops_both zero ops front behind = behind
ops_both (suc n) [] front behind = λ k op e. absurd (cc)
ops_both (suc n) (op ∷ ops) front behind = ops_first op ops (front 0 op refl) (ops_both n ops (λ j o h. front (suc j) o h) behind)

-- what holds at all events holds of a success
pub on_ok : {T E P : Type 0} (r : Result T E) → P → OnOk r P
on_ok (Ok x) p = p
on_ok (Err e) p = tt
