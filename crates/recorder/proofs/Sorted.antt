-- Lists in the order of a place that each element has.
use Rattle.std.proofs.Common.{ℕ, zero, suc, ◌≡◌, ◌<◌, List, [], ◌∷◌, Some, sym, ◌∙◌, subst, refl, arith}
use Rattle.std.specs.List.{slice_get, Contains}
use Rattle.std.proofs.lemmas.List.Elements.{Contains-append_right}
use Rattle.std.proofs.lemmas.Map.Made.{Contains-tail}
use Rattle.tag.proofs.Lists.{place_of, Contains-slice_get}

-- each element has a place, and the places rise
pub record IsInOrder (X : Type 0) (At : X → ℕ → Type 0) (xs : List X) : Type 0 where
  pub has : (x : X) → Contains xs x → (m : ℕ) × At x m
  pub rises : (i j : ℕ) (x y : X) (m n : ℕ) → i < j → slice_get xs i ≡ Some x → slice_get xs j ≡ Some y → At x m → At y n → m < n

pub IsInOrder-tail : (X : Type 0) (At : X → ℕ → Type 0) (x : X) (xs : List X) → IsInOrder X At (x ∷ xs) → IsInOrder X At xs
IsInOrder-tail X At x xs o = record {
  has = λ y h. let k = place_of xs y h in o.has y (Contains-slice_get (x ∷ xs) (suc k.0) y k.1);
  rises = λ i j y z m n less at_i at_j. o.rises (suc i) (suc j) y z m n (omega arith) at_i at_j;
}

-- the head doesn't come again
pub head_once : (X : Type 0) (At : X → ℕ → Type 0) (x : X) (xs : List X) → IsInOrder X At (x ∷ xs) → Contains xs x → ⊥
head_once X At x xs o h =
    let k = place_of xs x h in
    let m = o.has x (Contains-slice_get (x ∷ xs) 0 x refl) in
    let less = o.rises 0 (suc k.0) x x m.0 m.0 (omega arith) refl k.1 m.1 m.1 in
    omega (arith, less)

-- where the other list's head stands: first, or after the own head
module _ (X : Type 0) (At : X → ℕ → Type 0) (x y : X) (xs ys : List X) (p : IsInOrder X At (x ∷ xs)) (q : IsInOrder X At (y ∷ ys)) where
  heads : (i j : ℕ) → slice_get (y ∷ ys) i ≡ Some x → slice_get (x ∷ xs) j ≡ Some y → x ≡ y
  heads zero j at_x at_y = cc
  heads (suc i) zero at_x at_y = cc
  heads (suc i) (suc j) at_x at_y =
      let m = p.has x (Contains-slice_get (x ∷ xs) 0 x refl) in
      let n = q.has y (Contains-slice_get (y ∷ ys) 0 y refl) in
      let up = p.rises 0 (suc j) x y m.0 n.0 (omega arith) refl at_y m.1 n.1 in
      let down = q.rises 0 (suc i) y x n.0 m.0 (omega arith) refl at_x n.1 m.1 in
      absurd (omega (arith, up, down))

-- two lists in that order with the same members are one
pub same_in_order : (X : Type 0) (At : X → ℕ → Type 0) (xs ys : List X) → IsInOrder X At xs → IsInOrder X At ys → ((x : X) → Contains xs x → Contains ys x) → ((x : X) → Contains ys x → Contains xs x) → xs ≡ ys
same_in_order X At [] [] p q left right = refl
same_in_order X At [] (y ∷ ys) p q left right = let h = right y (Contains-slice_get (y ∷ ys) 0 y refl) in absurd (omega (arith, h.1))
same_in_order X At (x ∷ xs) [] p q left right = let h = left x (Contains-slice_get (x ∷ xs) 0 x refl) in absurd (omega (arith, h.1))
same_in_order X At (x ∷ xs) (y ∷ ys) p q left right =
    let i = place_of (y ∷ ys) x (left x (Contains-slice_get (x ∷ xs) 0 x refl)) in
    let j = place_of (x ∷ xs) y (right y (Contains-slice_get (y ∷ ys) 0 y refl)) in
    let head : x ≡ y = heads X At x y xs ys p q i.0 j.0 i.1 j.1 in
    let tail : xs ≡ ys = same_in_order X At xs ys (IsInOrder-tail X At x xs p) (IsInOrder-tail X At y ys q)
    (λ z h. Contains-tail y ys z (λ e. head_once X At x xs p (subst (λ (w : X). Contains xs w) (sym e ∙ sym head) h)) (left z (Contains-append_right (x ∷ []) xs z h)))
    (λ z h. Contains-tail x xs z (λ e. head_once X At y ys q (subst (λ (w : X). Contains ys w) (sym e ∙ head) h)) (right z (Contains-append_right (y ∷ []) ys z h))) in
    cc
