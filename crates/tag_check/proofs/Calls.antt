-- The least numbered calls, found by index.
use Rattle.std.proofs.Common.{ℕ, ◌≡◌, ◌<◌, ◌≤◌, ◌+◌, inl, inr, List, Option, Some, None, true, false, length, refl, ap, sym, subst, arith}
use Rattle.std.specs.Option.{is_some}
use Rattle.std.specs.List.{slice_get}
use Rattle.std.proofs.lemmas.Bool.{cases_lt, false≢true}
use Rattle.tag.specs.declared.numbers.OpId.{OpId}
use Rattle.std.proofs.lemmas.Option.{slice_get_within}
use Rattle.recorder.specs.declared.part.Call.{Call}
use Rattle.recorder.specs.Parts.{IsSequence}
use Rattle.tag.proofs.Lists.{place_of, Contains-slice_get}
use Rattle.tag_check.specs.Least.{LacksCall, IsFirstBefore, IsLeastCall}

-- no call below index i has the property
abbrev pub NoneBelow : List Call → (Call → Type 0) → ℕ → Type 0
NoneBelow part P i =
    (m : ℕ) (call : Call) → m < i → slice_get part m ≡ Some call → P call → ⊥

-- a call with the property, after none that has it, is the least
pub first_here : (part : List Call) → IsSequence part → (P : Call → Type 0) (i : ℕ) (call : Call) → slice_get part i ≡ Some call → P call → NoneBelow part P i → IsLeastCall part P call.op
first_here part sequence P i call at has none = record {
  call = call;
  recorded = Contains-slice_get part i call at;
  number = refl;
  has = has;
  least = λ other there holds.
      let k = place_of part other there in
      elim (cases_lt k.0 i) [
        | inl h ↦ absurd (none k.0 other h k.1 holds)
        | inr h ↦ elim (cases_lt i k.0) [
          | inl g ↦ let up : call.op.0 < other.op.0 = sequence.numbers i k.0 call other g at k.1 in omega arith
          | inr g ↦
              let same : i ≡ k.0 = omega arith in
              let there : slice_get part i ≡ slice_get part k.0 = ap (slice_get part) same in
              let one : call ≡ other = cc (at, k.1, there) in
              let number : call.op.0 ≡ other.op.0 = ap (λ (x : Call). x.op.0) one in
              omega arith
        ]
      ];
}

-- none up to a call that hasn't the property
pub none_more : (part : List Call) (P : Call → Type 0) (i : ℕ) (call : Call) → slice_get part i ≡ Some call → (P call → ⊥) → NoneBelow part P i → NoneBelow part P (i + 1)
none_more part P i call at not_here none m other less there holds =
    elim (cases_lt m i) [
      | inl h ↦ none m other h there holds
      | inr h ↦
          let same : m ≡ i = omega arith in
          let here : slice_get part m ≡ slice_get part i = ap (slice_get part) same in
          let one : other ≡ call = cc (at, there, here) in
          not_here (subst P one holds)
    ]

-- what holds of each call below an index, and of the call there
pub all_more : (part : List Call) (P : Call → Type 0) (i : ℕ) (call : Call) → slice_get part i ≡ Some call → P call → ((m : ℕ) (other : Call) → m < i → slice_get part m ≡ Some other → P other) → (m : ℕ) (other : Call) → m < i + 1 → slice_get part m ≡ Some other → P other
all_more part P i call at here before m other less there =
    elim (cases_lt m i) [
      | inl h ↦ before m other h there
      | inr h ↦
          let same : m ≡ i = omega arith in
          let index : slice_get part m ≡ slice_get part i = ap (slice_get part) same in
          let one : call ≡ other = cc (at, there, index) in
          subst P one here
    ]

-- none at all
pub none_all : (part : List Call) (P : Call → Type 0) (i : ℕ) → length part ≤ i → NoneBelow part P i → LacksCall part P
none_all part P i past none call there holds =
    let k = place_of part call there in
    none k.0 call (omega (arith, slice_get_within part k.0 call k.1)) k.1 holds

-- ---- the first of the calls below an index

-- one that was found stays the first
pub first_stays : (part : List Call) (P : Call → Type 0) (i : ℕ) (first : Option OpId) → is_some first ≡ true → IsFirstBefore part P i first → IsFirstBefore part P (i + 1) first
first_stays part P i None some before = absurd (false≢true some)
first_stays part P i (Some op) some before = before

-- none that was found
pub first_none : (part : List Call) (P : Call → Type 0) (i : ℕ) (first : Option OpId) → is_some first ≡ false → IsFirstBefore part P i first → NoneBelow part P i
first_none part P i None none before = before
first_none part P i (Some op) none before = absurd (false≢true (sym none))
