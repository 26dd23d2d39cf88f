-- Slots: where the numbers of most keys stand.
use Rattle.std.specs.Prelude.{ℕ, ◌≡◌, ◌+◌, ◌-◌, ◌<◌, ◌≢◌, List, Some, length, slice_get, bit_and}
use Rattle.key_index.specs.declared.slots.Slot.{Slot}

-- the number of a slot that is free
abbrev pub free : ℕ
free = 4294967295

-- the place of a mark, so many steps from its home, in a table of so many slots
abbrev pub place_of : ℕ → ℕ → ℕ → ℕ
place_of mark steps count = bit_and (mark + steps) (count - 1)

-- a number stands at that place
abbrev pub IsTaken : List Slot → ℕ → Type 0
IsTaken slots place =
    (slot : Slot) × (slice_get slots place ≡ Some slot) × (slot.number ≢ free)

-- the places before so many steps from the mark's home are taken
abbrev pub AreTaken : List Slot → ℕ → ℕ → Type 0
AreTaken slots mark steps =
    (before : ℕ) → before < steps → IsTaken slots (place_of mark before (length slots))

-- the place is the mark's first free one, of 16
pub record IsFree (slots : List Slot) (mark place : ℕ) : Type 0 where
  pub steps : ℕ
  pub within : steps < 16
  pub is : place ≡ place_of mark steps (length slots)
  pub slot : Slot
  pub here : slice_get slots place ≡ Some slot
  pub unused : slot.number ≡ free
  pub before : AreTaken slots mark steps

-- the number stands at one of 16 places from its mark's home on, and those before are taken
pub record Stands (slots : List Slot) (mark number : ℕ) : Type 0 where
  pub steps : ℕ
  pub within : steps < 16
  pub here : slice_get slots (place_of mark steps (length slots))
      ≡ Some (record { mark = mark; number = number })
  pub taken : number ≢ free
  pub before : AreTaken slots mark steps
