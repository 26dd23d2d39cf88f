-- The JSON value that a line is.
use Rattle.std.specs.Prelude.{◌≡◌, List, ℕ, Option, Some, None, Result, Ok, Err, is_some}
use Rattle.std.specs.Prelude.{unwrap_or, false}
use Rattle.serde_json.specs.Data.{Data, null, string}
use Rattle.serde_json.specs.Read.{of_json}
use Rattle.serde_json.specs.Find.{as_null, as_str}
use Rattle.json.specs.Value.{value_view}
use Rattle.row_members.specs.Values.{IsJson, value_of}
use Rattle.file_format.specs.declared.fault.LineFault.TheVariants.{NotJson}
use Rattle.file_format.specs.Faults.{LineStop}
use Rattle.counted_devices.specs.declared.read_fault.Stop.TheVariants as stop
use Rattle.file_format.specs.declared.document.Document.{Document}
use Rattle.file_format.specs.declared.document.Member.{Member}
use Rattle.file_format.specs.declared.document.Member.TheVariants as member
use Rattle.file_format.specs.declared.row_document.RowDocument.{RowDocument}
use Rattle.file_format.specs.declared.row_document.RowDocument.TheVariants as row

-- the value of a document
abbrev pub data_in : Document → Data
data_in document = unwrap_or (of_json (value_view document.value)) null

-- the value of a row's line
abbrev pub row_data : RowDocument → Data
row_data (row.Members line) = value_of line.now
row_data (row.Value document) = data_in document.now

-- the line's value was read, or it has none, or memory ran out
abbrev pub ReadsDocument : List ℕ → Result Document LineStop → Type 0
ReadsDocument line (Ok document) = IsJson line (data_in document)
ReadsDocument line (Err (stop.Fault NotJson)) = (d : Data) → IsJson line d → ⊥
ReadsDocument line (Err (stop.Fault fault)) = ⊥
ReadsDocument line (Err stop.Memory) = Unit {0}

-- what a member is that may be missing
abbrev pub Classifies : Option Data → Member → Type 0
Classifies found member.Missing = found ≡ None
Classifies found member.Null = found ≡ Some null
Classifies found (member.Text text) = found ≡ Some (string text.text.now)
Classifies found member.Other =
    (d : Data) × (found ≡ Some d) × (is_some (as_null d) ≡ false) × (as_str d ≡ None)
