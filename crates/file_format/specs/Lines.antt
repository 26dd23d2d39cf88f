-- What a line shows by itself.
use Rattle.std.specs.Prelude.{ℕ, ◌≡◌, ◌≤◌, ◌<◌, List, length, Result, Ok, Err}
use Rattle.serde_json.specs.Data.{Data}
use Rattle.file_format.specs.declared.fault.LineFault.{LineFault}
use Rattle.file_format.specs.declared.fault.LineFault.TheVariants.{NotJson, TooLong}
use Rattle.file_format.specs.Faults.{LineStop}
use Rattle.counted_devices.specs.declared.read_fault.Stop.TheVariants as stop
use Rattle.counted_devices.specs.Cuts.{longest_line}
use Rattle.row_members.specs.Values.{IsJson}

module _ {X : Type 0} (meaning : Data → Result X LineFault) where
  module _ (line : List ℕ) where
    -- the line has an allowed length, and its JSON value says that
    pub record LineSays (said : Result X LineFault) : Type 0 where
      pub short : length line ≤ longest_line
      pub value : Data
      pub json : IsJson line value
      pub meant : meaning value ≡ said

    -- what the line shows: too long, else no JSON, else what its value says
    abbrev pub LineShows : Result X LineFault → Type 0
    LineShows (Err TooLong) = longest_line < length line
    LineShows (Err NotJson) = (length line ≤ longest_line) × ((d : Data) → IsJson line d → ⊥)
    LineShows said = LineSays said

    -- what the line shows is that, unless memory ran out
    abbrev pub LineShowsBy : Result X LineStop → Type 0
    LineShowsBy (Ok x) = LineShows (Ok x)
    LineShowsBy (Err (stop.Fault fault)) = LineShows (Err fault)
    LineShowsBy (Err stop.Memory) = Unit {0}
