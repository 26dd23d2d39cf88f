-- Formats of files: a header, and then lines that are items.
use Rattle.std.specs.Prelude.{List, [], ◌∷◌, ◌++◌, Result, Ok, Err}
use Rattle.serde_json.specs.Data.{Data}
use Rattle.file_format.specs.declared.fault.LineFault.{LineFault}
use Rattle.file_format.specs.declared.fault.LineFault.TheVariants.{NotJson, TooLong}
use Rattle.file_format.specs.Faults.{LineStop}
use Rattle.counted_devices.specs.declared.read_fault.Stop.TheVariants as stop

-- a format: the header that the first line's value says, and after a header the item that a later
-- line's value says, which items may stand in a file, and which fault an item has after others
pub record Format (Header Item : Type 0) : Type 1 where
  pub heading : Data → Result Header LineFault
  pub meaning : Header → Data → Result Item LineFault
  pub Admits : Header → List Item → Type 0
  pub HasFault : Header → List Item → Item → LineFault → Type 0

module _ {Header Item Contents : Type 0} (format : Format Header Item)
    (Makes : Header → List Item → Contents → Type 0) (header : Header) (items : List Item) where
  -- an item is added to those items, of which the contents were made, or it has that fault
  abbrev pub Follows : Item → Result (Unit {0}) LineStop → Contents → Type 0
  Follows item (Ok done) new =
      format.Admits header (items ++ item ∷ []) × Makes header (items ++ item ∷ []) new
  Follows item (Err (stop.Fault fault)) new = format.HasFault header items item fault
  Follows item (Err stop.Memory) new = Unit {0}

-- a fault that a value's members can have: the line was short enough, and JSON
abbrev pub IsOfMembers : LineFault → Type 0
IsOfMembers NotJson = ⊥
IsOfMembers TooLong = ⊥
IsOfMembers fault = Unit {0}

-- the fault of what was said, if it has one, is one of members
abbrev pub IsFine : {X : Type 0} → Result X LineFault → Type 0
IsFine (Ok x) = Unit {0}
IsFine (Err fault) = IsOfMembers fault
