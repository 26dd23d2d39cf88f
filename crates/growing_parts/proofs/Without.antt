-- Calls without those of a number.
use Rattle.std.proofs.Common.{ℕ, zero, suc, ◌≡◌, ◌≢◌, ◌<◌, ◌≤◌, ◌+◌, ◌⊎◌, inl, inr, List, [], ◌∷◌, Some, Bool, true, false, nat_eq}
use Rattle.std.proofs.Common.{eqb-true}
use Rattle.std.proofs.Common.{ap, sym, ◌∙◌, refl, arith}
use Rattle.std.specs.List.{slice_get, Contains}
use Rattle.std.proofs.lemmas.Bool.{eqb-false}
use Rattle.std.proofs.lemmas.List.Elements.{Contains-append_left, Contains-append_right, Contains-append_cases, Contains-push}
use Rattle.std.proofs.lemmas.List.Elements.{Contains-push_cases}
use Rattle.std.proofs.lemmas.Option.{same_Some}
use Rattle.tag.proofs.Lists.{place_of, Contains-slice_get}
use Rattle.tag.proofs.Options.{none_some}
use Rattle.recorder.specs.declared.part.Call.{Call}

-- ---- a list with a number more

pub first_in : (n : ℕ) (gone : List ℕ) → Contains (n ∷ gone) n
first_in n gone = Contains-append_left (n ∷ []) gone n (Contains-push [] n)

pub others_in : (n : ℕ) (gone : List ℕ) (m : ℕ) → Contains gone m → Contains (n ∷ gone) m
others_in n gone m h = Contains-append_right (n ∷ []) gone m h

pub in_cases : (n : ℕ) (gone : List ℕ) (m : ℕ) → Contains (n ∷ gone) m → (n ≡ m) ⊎ Contains gone m
in_cases n gone m h = elim (Contains-append_cases (n ∷ []) gone m h) [
  | inl w ↦ elim (Contains-push_cases [] n m w) [ inl none ↦ absurd (omega (arith, none.1)) | inr same ↦ inl same ]
  | inr w ↦ inr w
]

-- ---- calls without those of a number

kept_by : Bool → Call → List Call → List Call
kept_by true call calls = calls
kept_by false call calls = call ∷ calls

pub without : ℕ → List Call → List Call
without n [] = []
without n (call ∷ calls) = kept_by (nat_eq call.op.0 n) call (without n calls)

-- what stands there stood at that place or at a later one, and is of another number
record StoodAt (n : ℕ) (calls : List Call) (i : ℕ) (call : Call) : Type 0 where
  place : ℕ
  later : i ≤ place
  at : slice_get calls place ≡ Some call
  other : call.op.0 ≢ n

stood_later : (n : ℕ) (first : Call) (calls : List Call) (i j : ℕ) (call : Call) → j ≤ i + 1 → StoodAt n calls i call
    → StoodAt n (first ∷ calls) j call
stood_later n first calls i j call le s = record {
  place = suc s.place;
  later = (let late = s.later in omega arith);
  at = s.at;
  other = s.other;
}

stood_by : (n : ℕ) (first : Call) (calls : List Call) (b : Bool) → nat_eq first.op.0 n ≡ b → ((i : ℕ) (call : Call) → slice_get (without n
    calls) i ≡ Some call → StoodAt n calls i call) → (i : ℕ) (call : Call) → slice_get (kept_by b first (without n calls)) i ≡ Some call
    → StoodAt n (first ∷ calls) i call
unfolding kept_by
stood_by n first calls true e rest i call at = stood_later n first calls i i call (omega arith) (rest i call at)
stood_by n first calls false e rest zero call at = record {
  place = 0;
  later = omega arith;
  at = at;
  other = λ same. eqb-false first.op.0 n e (ap (λ (c : Call). c.op.0) (same_Some first call at) ∙ same);
}
stood_by n first calls false e rest (suc i) call at = stood_later n first calls i (suc i) call (omega arith) (rest i call at)

stood : (n : ℕ) (calls : List Call) (i : ℕ) (call : Call) → slice_get (without n calls) i ≡ Some call → StoodAt n calls i call
unfolding without
stood n [] i call at = none_some at
stood n (first ∷ calls) i call at = stood_by n first calls (nat_eq first.op.0 n) refl (stood n calls) i call at

-- two that stand in an order stood in it
pub record StoodBoth (calls : List Call) (a b : Call) : Type 0 where
  pub i : ℕ
  pub j : ℕ
  pub less : i < j
  pub at_i : slice_get calls i ≡ Some a
  pub at_j : slice_get calls j ≡ Some b

both_later : (first : Call) (calls : List Call) (a b : Call) → StoodBoth calls a b → StoodBoth (first ∷ calls) a b
both_later first calls a b s = record {
  i = suc s.i;
  j = suc s.j;
  less = (let less = s.less in omega arith);
  at_i = s.at_i;
  at_j = s.at_j;
}

both_by : (n : ℕ) (first : Call) (calls : List Call) (test : Bool) → ((i j : ℕ) (a b : Call) → i < j → slice_get (without n calls) i
    ≡ Some a
    → slice_get (without n calls) j ≡ Some b → StoodBoth calls a b) → (i j : ℕ) (a b : Call) → i < j
    → slice_get (kept_by test first (without n calls)) i ≡ Some a → slice_get (kept_by test first (without n calls)) j ≡ Some b
    → StoodBoth (first ∷ calls) a b
unfolding kept_by
both_by n first calls true rest i j a b less at_i at_j = both_later first calls a b (rest i j a b less at_i at_j)
both_by n first calls false rest i zero a b less at_i at_j = absurd (omega arith)
both_by n first calls false rest zero (suc j) a b less at_i at_j =
    let s = stood n calls j b at_j in
    record { i = 0; j = suc s.place; less = omega arith; at_i = at_i; at_j = s.at }
both_by n first calls false rest (suc i) (suc j) a b less at_i at_j = both_later first calls a b (rest i j a b (omega arith) at_i at_j)

pub both : (n : ℕ) (calls : List Call) (i j : ℕ) (a b : Call) → i < j → slice_get (without n calls) i ≡ Some a
    → slice_get (without n calls) j ≡ Some b → StoodBoth calls a b
unfolding without
both n [] i j a b less at_i at_j = none_some at_i
both n (first ∷ calls) i j a b less at_i at_j = both_by n first calls (nat_eq first.op.0 n) (both n calls) i j a b less at_i at_j

-- the others stay
stays_by : (n : ℕ) (first : Call) (calls : List Call) (b : Bool) → nat_eq first.op.0 n ≡ b → (call : Call) → call.op.0 ≢ n
    → ((k : ℕ) → slice_get calls k ≡ Some call → (i : ℕ) × (slice_get (without n calls) i ≡ Some call)) → (k : ℕ)
    → slice_get (first ∷ calls) k ≡ Some call → (i : ℕ) × (slice_get (kept_by b first (without n calls)) i ≡ Some call)
unfolding kept_by
stays_by n first calls true e call other rest zero at = absurd (other (sym (ap (λ (c : Call). c.op.0) (same_Some first call at)) ∙ eqb-true
    first.op.0 n e))
stays_by n first calls true e call other rest (suc k) at = rest k at
stays_by n first calls false e call other rest zero at = (0, at)
stays_by n first calls false e call other rest (suc k) at = (let i = rest k at in (suc i.0, i.1))

stays_at : (n : ℕ) (calls : List Call) (call : Call) → call.op.0 ≢ n → (k : ℕ) → slice_get calls k ≡ Some call
    → (i : ℕ) × (slice_get (without n calls) i ≡ Some call)
unfolding without
stays_at n [] call other k at = none_some at
stays_at n (first ∷ calls) call other k at = stays_by n first calls (nat_eq first.op.0 n) refl call other (stays_at n calls call other) k at

-- as members
pub was_in : (n : ℕ) (calls : List Call) (call : Call) → Contains (without n calls) call → Contains calls call × (call.op.0 ≢ n)
was_in n calls call h =
    let i = place_of (without n calls) call h in
    let s = stood n calls i.0 call i.1 in
    (Contains-slice_get calls s.place call s.at, s.other)

pub stays_in : (n : ℕ) (calls : List Call) (call : Call) → Contains calls call → call.op.0 ≢ n → Contains (without n calls) call
stays_in n calls call h other =
    let k = place_of calls call h in
    let i = stays_at n calls call other k.0 k.1 in
    Contains-slice_get (without n calls) i.0 call i.1
