-- The first write of each value: at a place of a table, or among others in an ordered map.
use Rattle.std.specs.Prelude.{ℕ, ◌≡◌, ◌≢◌, ◌<◌, ◌+◌, ◌-◌, ◌/◌, ◌^◌, ◌⊎◌, max, List, Some, length}
use Rattle.std.specs.Prelude.{slice_get, bit_and}
use Rattle.std.specs.Borrow.{Bor}
use Rattle.std.specs.BTreeMap.{BTreeMap, get_by}
use Rattle.std.specs.Cmp.Lexicographic.{slice_cmp}
use Rattle.std.specs.Hash.FoldHasher as folding
use Rattle.std.specs.Ordering.{nat_cmp}
use Rattle.tag.specs.declared.actions.Action.TheVariants.{Write}
use Rattle.recorder.specs.declared.part.Call.{Call}
use Rattle.value_order.specs.declared.firsts.Probe.{Probe}
use Rattle.value_order.specs.declared.firsts.Probe.TheVariants as probe
use Rattle.value_order.specs.declared.firsts.Slot.{Slot}
use Rattle.value_order.specs.Classes.{IsFirstWrite}

-- the value's mark: the upper half of its hash, and 1 for 0
abbrev pub mark_of : List ℕ → ℕ
mark_of value = max (folding.finish (folding.write folding.initial value) / 2 ^ 32) 1

-- the place of a mark, so many steps from its home, in a table of so many
abbrev pub place_of : ℕ → ℕ → ℕ → ℕ
place_of mark steps count = bit_and (mark + steps) (count - 1)

-- the call of that index writes the value
abbrev pub WritesAt : List Call → ℕ → List ℕ → Type 0
WritesAt part i value = (call : Call) × (slice_get part i ≡ Some call) × (call.action ≡ Write value)

module _ (slots : List Slot) where
  -- that place isn't free
  abbrev pub IsTaken : ℕ → Type 0
  IsTaken place = (slot : Slot) × (slice_get slots place ≡ Some slot) × (slot.mark ≢ 0)

  -- the places before so many steps from the mark's home aren't
  abbrev pub AreTaken : ℕ → ℕ → Type 0
  AreTaken mark steps =
      (before : ℕ) → before < steps → IsTaken (place_of mark before (length slots))

  -- the place is the mark's first free one, of 16
  pub record IsFree (mark place : ℕ) : Type 0 where
    pub steps : ℕ
    pub within : steps < 16
    pub is : place ≡ place_of mark steps (length slots)
    pub slot : Slot
    pub here : slice_get slots place ≡ Some slot
    pub unused : slot.mark ≡ 0
    pub before : AreTaken mark steps

  -- the index stands at one of 16 places from its mark's home on, and those before are taken
  pub record Stands (mark index : ℕ) : Type 0 where
    pub steps : ℕ
    pub within : steps < 16
    pub here : slice_get slots (place_of mark steps (length slots))
        ≡ Some (record { mark = mark; index = index })
    pub taken : mark ≢ 0
    pub before : AreTaken mark steps

-- among the others that is the index of the value
abbrev pub Has : BTreeMap (Bor (List ℕ)) ℕ → List ℕ → ℕ → Type 0
Has others value k = get_by (λ text. slice_cmp nat_cmp value text.now) others ≡ Some k

module _ (part : List Call) where
  -- each index that stands in the table is that of some value's first write
  abbrev pub AreKnown : List Slot → Type 0
  AreKnown slots = (place : ℕ) (slot : Slot) → slice_get slots place ≡ Some slot → slot.mark ≢ 0
      → (value : List ℕ) × IsFirstWrite part value slot.index

  -- the value's first write doesn't stand under that mark
  abbrev pub StandsNowhere : List Slot → ℕ → List ℕ → Type 0
  StandsNowhere slots mark value = (k : ℕ) → IsFirstWrite part value k → Stands slots mark k → ⊥

  -- what the places of a mark say of a value
  abbrev pub IsProbed : List Slot → ℕ → List ℕ → Probe → Type 0
  IsProbed slots mark value (probe.Stands k) = IsFirstWrite part value k × Stands slots mark k
  IsProbed slots mark value (probe.Free place) =
      IsFree slots mark place × StandsNowhere slots mark value
  IsProbed slots mark value probe.Full =
      AreTaken slots mark 16 × StandsNowhere slots mark value

  -- the first write of each value that a call below index n writes stands in the table, or is among
  -- the others, where no place of its mark was free
  pub record AreFirsts (n : ℕ) (slots : List Slot) (others : BTreeMap (Bor (List ℕ)) ℕ) : Type 0
    where
      pub room : 0 < length slots
      pub known : AreKnown slots
      pub right : (value : List ℕ) (k : ℕ) → Has others value k → IsFirstWrite part value k
          × AreTaken slots (mark_of value) 16
      pub found : (i : ℕ) (value : List ℕ) → i < n → WritesAt part i value → (k : ℕ)
          × IsFirstWrite part value k × (Stands slots (mark_of value) k ⊎ Has others value k)
