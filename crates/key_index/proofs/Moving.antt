-- Numbers that are moved, slot by slot, into a new table.
use Rattle.std.proofs.Common.{ℕ, ◌≡◌, ◌≢◌, ◌<◌, ◌+◌, ◌⊎◌, inl, inr, List, Some, length, sym, ◌∙◌, arith, below_more}
use Rattle.std.specs.List.{slice_get}
use Rattle.std.specs.BTreeMap.{BTreeMap}
use Rattle.std.proofs.lemmas.Option.{same_Some, slice_get_within}
use Rattle.key_index.specs.declared.slots.Slot.{Slot}
use Rattle.key_index.specs.Marks.{mark_of}
use Rattle.key_index.specs.Placed.{Has, Grows, StillStand, ArePlaced}
use Rattle.key_index.specs.Slots.{free, place_of, Stands}

-- the slot's number, where it is a key's, stands in the new table or is among the others
abbrev pub IsMoved : Slot → List Slot → BTreeMap (List ℕ) ℕ → List (List ℕ) → Type 0
IsMoved slot made others keys = (key : List ℕ) → slice_get keys slot.number ≡ Some key → slot.number ≢ free
    → Stands made slot.mark slot.number ⊎ Has others key slot.number

-- so are those of the first slots, so many, and the others grew
pub record AreMoved (slots made : List Slot) (old others : BTreeMap (List ℕ) ℕ) (keys : List (List ℕ)) (count : ℕ) : Type 0 where
  pub grows : Grows old others keys
  pub moved : (place : ℕ) → place < count → (slot : Slot) → slice_get slots place ≡ Some slot
      → IsMoved slot made others keys

-- none is moved at first
pub none_moved : (slots made : List Slot) (others : BTreeMap (List ℕ) ℕ) (keys : List (List ℕ))
    → ArePlaced slots others keys → AreMoved slots made others others keys 0
none_moved slots made others keys are = record {
  grows = record { right = are.right; kept = λ key number has. has };
  moved = λ place below. absurd (omega (arith, below));
}

-- others that grow twice grow
pub grows_on : (old others now : BTreeMap (List ℕ) ℕ) (keys : List (List ℕ)) → Grows old others keys
    → Grows others now keys → Grows old now keys
grows_on old others now keys before after = record {
  right = after.right;
  kept = λ key number has. after.kept key number (before.kept key number has);
}

-- a slot more
pub one_moved : (slots made next : List Slot) (old others now : BTreeMap (List ℕ) ℕ) (keys : List (List ℕ)) (count : ℕ) (slot : Slot) → AreMoved slots made old others keys count
    → slice_get slots count ≡ Some slot → Grows others now keys → StillStand made next → IsMoved slot next now keys
    → AreMoved slots next old now keys (count + 1)
one_moved slots made next old others now keys count slot are here grows still is = record {
  grows = grows_on old others now keys are.grows grows;
  moved = below_more _ _
      (λ place below there at key has taken. elim (are.moved place below there at key has taken) [
        | inl stands ↦ inl (still there.mark there.number stands)
        | inr other ↦ inr (grows.kept key there.number other)
      ])
      (λ there at. rw (← (same_Some slot there (sym here ∙ at))) is);
}

-- once all are, the keys are placed
pub all_moved : (slots made : List Slot) (old others : BTreeMap (List ℕ) ℕ) (keys : List (List ℕ)) (count : ℕ)
    → count ≡ length slots → ArePlaced slots old keys
    → AreMoved slots made old others keys count → ArePlaced made others keys
all_moved slots made old others keys count all placed are = record {
  distinct = placed.distinct;
  found = λ number key at. elim (placed.found number key at) [
    | inl h ↦
        let place = place_of (mark_of key) h.steps (length slots) in
        let slot : Slot = record { mark = mark_of key; number = number } in
        let below : place < length slots = slice_get_within slots place slot h.here in
        are.moved place (rw all below) slot h.here key at h.taken
    | inr has ↦ inr (are.grows.kept key number has)
  ];
  right = are.grows.right;
}

-- where the old table stays, they are placed too
pub placed_still : (slots : List Slot) (old others : BTreeMap (List ℕ) ℕ) (keys : List (List ℕ))
    → ArePlaced slots old keys → Grows old others keys → ArePlaced slots others keys
placed_still slots old others keys placed grows = record {
  distinct = placed.distinct;
  found = λ number key at. elim (placed.found number key at) [
    | inl stands ↦ inl stands
    | inr has ↦ inr (grows.kept key number has)
  ];
  right = grows.right;
}
