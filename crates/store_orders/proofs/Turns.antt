-- Lists with the same calls of a part in the same turn.
use Rattle.std.proofs.Common.{ℕ, zero, suc, ◌≡◌, ◌≢◌, ◌<◌, ◌⊎◌, ◌↔◌, inl, inr, List, [], ◌∷◌}
use Rattle.std.proofs.Common.{Option, Some, None, length, sym, ap, ◌∙◌, refl, arith}
use Rattle.std.specs.List.{slice_get, Contains}
use Rattle.std.proofs.lemmas.Bool.{cases_eq}
use Rattle.std.proofs.lemmas.Option.{same_Some, slice_get_within}
use Rattle.tag.specs.declared.numbers.OpId.{OpId}
use Rattle.tag.proofs.Lists.{place_of, Contains-slice_get}
use Rattle.tag.proofs.Options.{none_some}
use Rattle.tag.proofs.SameTags.{same_op}
use Rattle.recorder.specs.declared.part.Call.{Call}
use Rattle.recorder.specs.Orders.{StandsAt, IsLastWritten, IsLegal}
use Rattle.store_orders.specs.Turns.{AreInTurn}

pub flipped : (part : List Call) (xs ys : List OpId) → AreInTurn part xs ys → AreInTurn part ys xs
flipped part xs ys are = record {
  there = are.back;
  back = are.there;
  same = λ i j k l a b at_i at_j at_k at_l.
      let both = are.same k l i j a b at_k at_l at_i at_j in
      (both.1, both.0);
}

-- ---- reads answer alike in both lists
module _ (part : List Call) (xs ys : List OpId) (are : AreInTurn part xs ys) where
  -- the last write before a call in one list is the last before it in the other
  last_written : (i j : ℕ) (call : Call) (answer : Option (List ℕ)) → StandsAt part xs i call → StandsAt part ys j call
      → IsLastWritten part xs i answer → IsLastWritten part ys j answer
  last_written i j call None at_i at_j none = λ k value low less write.
      let there = are.back k write.0 write.1 in
      none there.0 value (omega arith) ((are.same there.0 i k j write.0 call there.1 at_i write.1 at_j).1 less) (write.0, there.1, write.2)
  last_written i j call (Some value) at_i at_j last =
      let write = last.2 in
      let there = are.there last.0 write.0 write.1 in (
        there.0,
        (are.same last.0 i there.0 j write.0 call write.1 at_i there.1 at_j).0 last.1,
        (write.0, there.1, write.2),
        λ k other low less later.
            let here = are.back k later.0 later.1 in
            let past : there.0 < k = omega arith in
            let after = (are.same last.0 here.0 there.0 k write.0 later.0 write.1 here.1 there.1 later.1).1 past in
            last.3 here.0 other (omega (arith, after)) ((are.same here.0 i k j later.0 call here.1 at_i later.1 at_j).1 less)
            (later.0, here.1, later.2),
      )

  pub legal_too : IsLegal part xs → IsLegal part ys
  legal_too legal j call response stands reads answered =
      let there = are.back j call stands in
      let last = legal there.0 call response there.1 reads answered in
      (last.0, last.1, last_written there.0 j call last.0 there.1 stands last.2)

-- ---- the calls of a part in a list, in their turn

-- the part has a call of the number
abbrev pub HasNumber : List Call → OpId → Type 0
HasNumber part op = (call : Call) × Contains part call × (call.op ≡ op)

-- a list of numbers of the part's calls
abbrev pub AreNumbers : List Call → List OpId → Type 0
AreNumbers part ys = (j : ℕ) → j < length ys → (call : Call) × StandsAt part ys j call

in_tail : (call first : Call) (part : List Call) → Contains part call → Contains (first ∷ part) call
in_tail call first part h =
    let at = place_of part call h in
    Contains-slice_get (first ∷ part) (suc at.0) call at.1

has_number_by : (part : List Call) (first : Call) (op : OpId) → (first.op.0 ≡ op.0) ⊎ (first.op.0 ≡ op.0 → ⊥)
    → HasNumber part op ⊎ (HasNumber part op → ⊥) → HasNumber (first ∷ part) op ⊎ (HasNumber (first ∷ part) op → ⊥)
has_number_by part first op (inl same) rest = inl (first, Contains-slice_get (first ∷ part) 0 first refl, same_op first.op op same)
has_number_by part first op (inr other) (inl has) = inl (has.0, in_tail has.0 first part has.1, has.2)
has_number_by part first op (inr other) (inr none) = inr (λ has.
    let at = place_of (first ∷ part) has.0 has.1 in
    by has at.0 at.1)
  where
    by : (has : HasNumber (first ∷ part) op) (k : ℕ) → slice_get (first ∷ part) k ≡ Some has.0 → ⊥
    by has zero at = other (ap (λ (o : OpId). o.0) (ap (λ (c : Call). c.op) (same_Some first has.0 at) ∙ has.2))
    by has (suc k) at = none (has.0, Contains-slice_get part k has.0 at, has.2)

-- a part has a call of a number, or not
has_number : (part : List Call) (op : OpId) → HasNumber part op ⊎ (HasNumber part op → ⊥)
has_number [] op = inr (λ has. let at = place_of [] has.0 has.1 in none_some at.1)
has_number (first ∷ part) op = has_number_by part first op (cases_eq first.op.0 op.0) (has_number part op)

module _ (part : List Call) (op : OpId) (xs ys : List OpId) (are : AreInTurn part xs ys) where
  -- one number more that isn't of the part
  not_of : (call : Call) → (HasNumber part op → ⊥) → StandsAt part (op ∷ xs) 0 call → ⊥
  not_of call none stands = none (call, stands.recorded, sym (same_Some op call.op stands.listed))

  skipped : (HasNumber part op → ⊥) → AreInTurn part (op ∷ xs) ys
  skipped none = record { there = there; back = back; same = same }
    where
      there : (i : ℕ) (call : Call) → StandsAt part (op ∷ xs) i call → (j : ℕ) × StandsAt part ys j call
      there zero call stands = absurd (not_of call none stands)
      there (suc i) call stands = are.there i call (record { listed = stands.listed; recorded = stands.recorded })

      back : (j : ℕ) (call : Call) → StandsAt part ys j call → (i : ℕ) × StandsAt part (op ∷ xs) i call
      back j call stands =
          let at = are.back j call stands in
          (suc at.0, record { listed = at.1.listed; recorded = at.1.recorded })

      same : (i j k l : ℕ) (a b : Call) → StandsAt part (op ∷ xs) i a → StandsAt part (op ∷ xs) j b → StandsAt part ys k a
          → StandsAt part ys l b → (i < j) ↔ (k < l)
      same zero j k l a b x y z w = absurd (not_of a none x)
      same (suc i) zero k l a b x y z w = absurd (not_of b none y)
      same (suc i) (suc j) k l a b x y z w =
          let both = are.same i j k l a b (record { listed = x.listed; recorded = x.recorded })
          (record { listed = y.listed; recorded = y.recorded }) z w in
          (λ h. both.0 (omega arith), λ h. let less : i < j = both.1 h in omega arith)

  -- one more that is, and that doesn't stand there yet
  module _ (fresh : (i : ℕ) (call : Call) → StandsAt part xs i call → call.op ≡ op → ⊥) where
    abbrev First : Call → Type 0
    First call = call.op ≡ op

    before : (zs : List OpId) (i : ℕ) (call : Call) → StandsAt part (op ∷ zs) (suc i) call → StandsAt part zs i call
    before zs i call stands = record { listed = stands.listed; recorded = stands.recorded }

    after : (zs : List OpId) (i : ℕ) (call : Call) → StandsAt part zs i call → StandsAt part (op ∷ zs) (suc i) call
    after zs i call stands = record { listed = stands.listed; recorded = stands.recorded }

    first : (zs : List OpId) (call : Call) → StandsAt part (op ∷ zs) 0 call → call.op ≡ op
    first zs call stands = sym (same_Some op call.op stands.listed)

    at_first : (zs : List OpId) (call : Call) → call.op ≡ op → Contains part call → StandsAt part (op ∷ zs) 0 call
    at_first zs call is there = record { listed = ap Some (sym is); recorded = there }

    -- it isn't in the other list, either
    fresh_too : (j : ℕ) (call : Call) → StandsAt part ys j call → call.op ≡ op → ⊥
    fresh_too j call stands is = let at = are.back j call stands in fresh at.0 call at.1 is

    kept : AreInTurn part (op ∷ xs) (op ∷ ys)
    kept = record { there = there; back = back; same = same }
      where
        there : (i : ℕ) (call : Call) → StandsAt part (op ∷ xs) i call → (j : ℕ) × StandsAt part (op ∷ ys) j call
        there zero call stands = (0, at_first ys call (first xs call stands) stands.recorded)
        there (suc i) call stands = let at = are.there i call (before xs i call stands) in (suc at.0, after ys at.0 call at.1)

        back : (j : ℕ) (call : Call) → StandsAt part (op ∷ ys) j call → (i : ℕ) × StandsAt part (op ∷ xs) i call
        back zero call stands = (0, at_first xs call (first ys call stands) stands.recorded)
        back (suc j) call stands = let at = are.back j call (before ys j call stands) in (suc at.0, after xs at.0 call at.1)

        same : (i j k l : ℕ) (a b : Call) → StandsAt part (op ∷ xs) i a → StandsAt part (op ∷ xs) j b → StandsAt part (op ∷ ys) k a
            → StandsAt part (op ∷ ys) l b → (i < j) ↔ (k < l)
        same zero j (suc k) l a b x y z w = absurd (fresh_too k a (before ys k a z) (first xs a x))
        same (suc i) j zero l a b x y z w = absurd (fresh i a (before xs i a x) (first ys a z))
        same i zero k (suc l) a b x y z w = absurd (fresh_too l b (before ys l b w) (first xs b y))
        same i (suc j) k zero a b x y z w = absurd (fresh j b (before xs j b y) (first ys b w))
        same zero zero zero zero a b x y z w = (λ h. absurd (omega arith), λ h. absurd (omega arith))
        same zero (suc j) zero (suc l) a b x y z w = (λ h. omega arith, λ h. omega arith)
        same (suc i) zero (suc k) zero a b x y z w = (λ h. absurd (omega arith), λ h. absurd (omega arith))
        same (suc i) (suc j) (suc k) (suc l) a b x y z w =
            let both = are.same i j k l a b (before xs i a x) (before xs j b y) (before ys k a z) (before ys l b w) in
            (λ h. let less : k < l = both.0 (omega arith) in omega arith, λ h. let less : i < j = both.1 (omega arith) in omega arith)

numbers_kept : (part : List Call) (op : OpId) (ys : List OpId) → HasNumber part op → AreNumbers part ys → AreNumbers part (op ∷ ys)
numbers_kept part op ys has are zero h = (has.0, record { listed = ap Some (sym has.2); recorded = has.1 })
numbers_kept part op ys has are (suc j) h =
    let at = are j (omega arith) in
    (at.0, record { listed = at.1.listed; recorded = at.1.recorded })

-- the list's calls of the part, in their turn
abbrev pub Turn : List Call → List OpId → Type 0
Turn part xs = (ys : List OpId) × AreInTurn part xs ys × AreNumbers part ys

turn_by : (part : List Call) (op : OpId) (xs : List OpId) → ((i : ℕ) (call : Call) → StandsAt part xs i call → call.op ≡ op → ⊥)
    → HasNumber part op ⊎ (HasNumber part op → ⊥) → Turn part xs → Turn part (op ∷ xs)
turn_by part op xs fresh (inl has) turn = (op ∷ turn.0, kept part op xs turn.0 turn.1 fresh, numbers_kept part op turn.0 has turn.2)
turn_by part op xs fresh (inr none) turn = (turn.0, skipped part op xs turn.0 turn.1 none, turn.2)

pub turn_of : (part : List Call) (xs : List OpId) → ((i j : ℕ) → i < j → j < length xs → slice_get xs i ≢ slice_get xs j) → Turn part xs
turn_of part [] once = (
  [],
  record {
    there = λ i call stands. none_some stands.listed;
    back = λ i call stands. none_some stands.listed;
    same = λ i j k l a b x y z w. none_some x.listed;
  },
  λ j h. absurd (omega arith),
)
turn_of part (op ∷ xs) once =
    turn_by part op xs
    (λ i call stands is. once 0 (suc i) (omega arith) (let h = slice_get_within xs i call.op stands.listed in omega arith)
    (ap Some (sym is) ∙ sym stands.listed))
    (has_number part op) (turn_of part xs (λ i j less within. once (suc i) (suc j) (omega arith) (omega arith)))
