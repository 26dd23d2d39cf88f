-- What contracts see of a table of rows.
use Rattle.std.specs.Prelude.{ℕ, ◌≡◌, ◌++◌, List, Some, slice_get}
use Rattle.recorder.specs.declared.row.Row.{Row}
use Rattle.recorder.specs.Records.{BeginsAt}

-- the rows, the keys of their calls, and the texts of their values, one after the other
pub record Table : Type 0 where
  pub rows : List Row
  pub keys : List (List ℕ)
  pub texts : List ℕ

-- a later table: its keys and its texts begin with the earlier one's
pub record Extends (old new : Table) : Type 0 where
  pub keys : (more : List (List ℕ)) × (new.keys ≡ old.keys ++ more)
  pub texts : (more : List ℕ) × (new.texts ≡ old.texts ++ more)

-- how many rows there may be: an invocation, a note and a response of each call
abbrev pub row_limit : ℕ
row_limit = 3000000

-- a call on the key of that number is begun at that place
pub record BeginsOn (table : Table) (place number : ℕ) : Type 0 where
  pub key : List ℕ
  pub known : slice_get table.keys number ≡ Some key
  pub begun : BeginsAt table.rows key place
