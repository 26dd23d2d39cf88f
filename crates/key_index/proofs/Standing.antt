-- Numbers that stand in a table, before and after a write to a free place.
use Rattle.std.proofs.Common.{ℕ, ◌≡◌, ◌≢◌, ◌+◌, inl, inr, List, ◌++◌, Some, length, take, drop, set, sym, ◌∙◌, ap}
use Rattle.std.proofs.Common.{below_more}
use Rattle.std.proofs.Math.ListN.{length-set}
use Rattle.std.proofs.Math.Seq.{take-append_seam}
use Rattle.std.specs.List.{slice_get}
use Rattle.std.proofs.lemmas.Option.{same_Some, slice_get_within}
use Rattle.key_index.specs.declared.slots.Slot.{Slot}
use Rattle.key_index.specs.Slots.{free, place_of, IsTaken, AreTaken, IsFree, Stands}
use Rattle.tag.proofs.Lists.{slice_get-set}

-- a place more is taken
pub taken_more : (slots : List Slot) (mark steps : ℕ) → AreTaken slots mark steps
    → IsTaken slots (place_of mark steps (length slots)) → AreTaken slots mark (steps + 1)
taken_more slots mark steps before here = below_more _ _ before here

-- a place that is taken keeps its slot
kept_at : (slots : List Slot) (place : ℕ) (before slot : Slot) → slice_get slots place ≡ Some before
    → before.number ≡ free
    → (at : ℕ) (there : Slot) → slice_get slots at ≡ Some there → there.number ≢ free
    → slice_get (set slots place slot) at ≡ Some there
kept_at slots place before slot here unused at there is taken = elim (slice_get-set slots place at slot (slice_get_within slots place before here)) [
  | inl w ↦ let same : before ≡ there = same_Some before there (sym here ∙ ap (slice_get slots) (sym w.0) ∙ is) in
      let n : before.number ≡ there.number = ap (λ (s : Slot). s.number) same in
      absurd (taken (sym n ∙ unused))
  | inr w ↦ w.1 ∙ is
]

-- and so places stay taken
still_taken : (slots : List Slot) (mark place : ℕ) (slot : Slot) → IsFree slots mark place → (at : ℕ) → IsTaken slots at
    → IsTaken (set slots place slot) at
still_taken slots mark place slot first at h = (h.0, kept_at slots place first.slot slot first.here first.unused at h.0 h.1 h.2, h.2)

still_before : (slots : List Slot) (mark place : ℕ) (slot : Slot) → IsFree slots mark place → (of steps : ℕ)
    → AreTaken slots of steps → AreTaken (set slots place slot) of steps
still_before slots mark place slot first of steps before k below =
    rw (length-set slots place slot) (still_taken slots mark place slot first (place_of of k (length slots)) (before k below))

-- a number that stood still stands
pub still_stands : (slots : List Slot) (mark place : ℕ) (slot : Slot) → IsFree slots mark place
    → (of number : ℕ) → Stands slots of number → Stands (set slots place slot) of number
still_stands slots mark place slot first of number h = record {
  steps = h.steps;
  within = h.within;
  here = rw (length-set slots place slot) (kept_at slots place first.slot slot first.here first.unused
      (place_of of h.steps (length slots)) (record { mark = of; number = number }) h.here h.taken);
  taken = h.taken;
  before = still_before slots mark place slot first of h.steps h.before;
}

-- what is written at its mark's first free place stands
pub new_stands : (slots : List Slot) (place : ℕ) (slot : Slot) → IsFree slots slot.mark place → slot.number ≢ free
    → Stands (set slots place slot) slot.mark slot.number
new_stands slots place slot first taken = record {
  steps = first.steps;
  within = first.within;
  here = rw (length-set slots place slot, sym first.is) (elim (slice_get-set slots place place slot (slice_get_within slots place first.slot first.here)) [
    | inl w ↦ w.1
    | inr w ↦ absurd (w.0 (λ i. place))
  ]);
  taken = taken;
  before = still_before slots slot.mark place slot first slot.mark first.steps first.before;
}

-- what was written to a whole vector's slots is what it has
pub written_back : (old new : List Slot) (count : ℕ) → count ≡ length new
    → take count (new ++ drop (length new) old) ≡ new
written_back old new count all = rw all (take-append_seam new (drop (length new) old))
