-- Keys whose numbers stand in a table or are among the others, which are in an ordered map.
use Rattle.std.specs.Prelude.{ℕ, ◌≡◌, ◌⊎◌, List, Some, slice_get}
use Rattle.std.specs.Ordering.{nat_cmp}
use Rattle.std.specs.Cmp.Lexicographic.{slice_cmp}
use Rattle.std.specs.BTreeMap.{BTreeMap, get}
use Rattle.key_index.specs.declared.slots.Slot.{Slot}
use Rattle.key_index.specs.Marks.{mark_of}
use Rattle.key_index.specs.Numbers.{EachOnce}
use Rattle.key_index.specs.Slots.{Stands}

-- the others have that number for that key
abbrev pub Has : BTreeMap (List ℕ) ℕ → List ℕ → ℕ → Type 0
Has others key number = get (slice_cmp nat_cmp) others key ≡ Some number

-- each of the others has the number of its key
abbrev pub AreRight : BTreeMap (List ℕ) ℕ → List (List ℕ) → Type 0
AreRight others keys =
    (key : List ℕ) (number : ℕ) → Has others key number → slice_get keys number ≡ Some key

-- the new others are right, and have what the old ones had
pub record Grows (old new : BTreeMap (List ℕ) ℕ) (keys : List (List ℕ)) : Type 0 where
  pub right : AreRight new keys
  pub kept : (key : List ℕ) (number : ℕ) → Has old key number → Has new key number

-- each number that stood still stands
abbrev pub StillStand : List Slot → List Slot → Type 0
StillStand old new = (mark number : ℕ) → Stands old mark number → Stands new mark number

-- each key is there once, and its number stands in the table or is among the others, and those
-- are right
pub record ArePlaced (slots : List Slot) (others : BTreeMap (List ℕ) ℕ) (keys : List (List ℕ)) :
    Type 0 where
  pub distinct : EachOnce keys
  pub found : (number : ℕ) (key : List ℕ) → slice_get keys number ≡ Some key
      → Stands slots (mark_of key) number ⊎ Has others key number
  pub right : AreRight others keys
