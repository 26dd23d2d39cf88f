-- What the lines of a file make: nothing before its header.
use Rattle.std.specs.Prelude.{ℕ, ◌≡◌, ◌<◌, List, [], Option, Some, None, Result, Ok, Err, length}
use Rattle.counted_devices.specs.declared.read_fault.Stop.TheVariants as stop
use Rattle.file_format.specs.Faults.{LineStop}
use Rattle.file_format.specs.Files.{IsHeader, AreLinesOf}
use Rattle.file_format.specs.Formats.{Format}
use Rattle.file_format.specs.Lines.{LineShows}

-- some header begins a file without an item
pub record CanBegin {Header Item : Type 0} (format : Format Header Item) : Type 0 where
  pub header : Header
  pub fits : format.Admits header []

-- what is made of a header and of items tells the header
abbrev pub TellsHeader : {Header Item Body : Type 0} → (Header → List Item → Body → Type 0)
    → (Body → Header) → Type 0
TellsHeader {Header} {Item} {Body} Makes told =
    (header : Header) (items : List Item) (body : Body) → Makes header items body
    → told body ≡ header

module _ {Header Item Body : Type 0} (format : Format Header Item)
    (Makes : Header → List Item → Body → Type 0) where
  -- the line is a header, and the body is made of it and of no item
  pub record IsBegun (line : List ℕ) (body : Body) : Type 0 where
    pub header : Header
    pub read : IsHeader format line header
    pub fits : format.Admits header []
    pub made : Makes header [] body

  -- the first line begins that body, or it has that fault
  abbrev pub BeginsFile : List ℕ → Result Body LineStop → Type 0
  BeginsFile line (Ok body) = IsBegun line body
  BeginsFile line (Err (stop.Fault fault)) = LineShows format.heading line (Err fault)
  BeginsFile line (Err stop.Memory) = Unit {0}

  -- the lines are a header and those of items, of which the body is made
  pub record AreMade (lines : List (List ℕ)) (body : Body) : Type 0 where
    pub some : 0 < length lines
    pub header : Header
    pub items : List Item
    pub read : AreLinesOf format lines header items
    pub made : Makes header items body

  -- the lines that were read made that: where there is no body, there was none
  abbrev pub HaveMade : List (List ℕ) → Option Body → Type 0
  HaveMade lines None = lines ≡ []
  HaveMade lines (Some body) = AreMade lines body
