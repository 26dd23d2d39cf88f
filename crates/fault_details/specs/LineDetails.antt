-- Why a line by itself has its fault.
use Rattle.std.specs.Prelude.{ℕ, ◌≡◌, List, [], ◌++◌, Bool, true, false, Option, Some, None, codes}
use Rattle.std.specs.Prelude.{◌∷◌, is_some, not}
use Rattle.serde_json.specs.Data.{Data}
use Rattle.serde_json.specs.Find.{get, as_object}
use Rattle.serde_json.specs.View.{view}
use Rattle.row_members.specs.Values.{IsJson}
use Rattle.file_format.specs.declared.fault.LineFault.{LineFault}
use Rattle.file_format.specs.declared.fault.LineFault.TheVariants.{NotJson, NoHeader, Version}
use Rattle.file_format.specs.declared.fault.LineFault.TheVariants.{Member, Range, TooLong}
use Rattle.file_format.specs.declared.fault.LineFault.TheVariants.{TooManyCalls}
use Rattle.fault_details.specs.declared.demand.Allowed.{Allowed}
use Rattle.fault_details.specs.declared.demand.Demand.{Demand}
use Rattle.fault_details.specs.declared.demand.Name.{Name}
use Rattle.fault_details.specs.declared.demand.Test.{Test}
use Rattle.fault_details.specs.declared.demand.Test.TheVariants as test
use Rattle.fault_details.specs.declared.demands.LineKind.{LineKind}
use Rattle.fault_details.specs.declared.demands.LineKind.TheVariants as kind
use Rattle.fault_details.specs.declared.line_details.FaultyLine.{FaultyLine}
use Rattle.fault_details.specs.declared.json_line.Broken.{Broken}
use Rattle.fault_details.specs.declared.json_line.Broken.TheVariants as broken
use Rattle.fault_details.specs.declared.json_line.Parsed.{Parsed}
use Rattle.fault_details.specs.declared.json_line.Parsed.TheVariants as parsed
use Rattle.fault_details.specs.Beginnings.{IsReason}
use Rattle.fault_details.specs.Demands.{allowed_text, first_failing, name_text}
use Rattle.fault_details.specs.Needed.{needed}
use Rattle.fault_details.specs.Shown.{grouped, shown}
use Rattle.fault_details.specs.Written.{note_text, IsWritten}

-- ---- no JSON

-- the line was read as a JSON value, or it is none for that reason
abbrev pub Parses : List ℕ → Parsed → Type 0
Parses line (parsed.Json value) = IsJson line (view value)
Parses line (parsed.Broken why) = ((d : Data) → IsJson line d → ⊥) × IsReason line why

-- at which byte it stops being JSON
unfoldable pub invalid_text : ℕ → List ℕ
invalid_text place = codes "  the line stops being JSON at byte " ++ grouped place ++ codes "\n"

-- why a line is no JSON text
unfoldable pub broken_text : Broken → List ℕ
broken_text broken.Blank = codes "  the line is blank\n"
broken_text broken.Mark =
    codes "  the line begins with a byte order mark, which no JSON text has\n"
broken_text broken.NotUtf8 = codes "  the line is not UTF-8\n"
broken_text broken.EndsEarly = codes "  the JSON text of the line ends too soon\n"
broken_text (broken.Invalid place) = invalid_text place

-- a line without its end is the last one, and was cut while it was written
abbrev pub cut_text : Bool → List ℕ
cut_text true = []
cut_text false = codes "  the line has no end: the log was cut there, so drop that line\n"

-- ---- members

-- what stands there in the line, where that is allowed: nothing, or the value as it is written
abbrev pub Stands : List ℕ → Allowed → Option Data → List ℕ → Type 0
Stands line a None text = text ≡ codes "missing"
Stands line a (Some d) text = (written : List ℕ) × IsWritten line d written
    × (text ≡ shown written ++ note_text a d written)

-- the member of that name is that
unfoldable pub is_text : Name → List ℕ → List ℕ
is_text n stands = codes "  \"" ++ name_text n ++ codes "\" is " ++ stands

-- what it should be
unfoldable pub should_text : Allowed → List ℕ
should_text a = codes ": it should be " ++ allowed_text a ++ codes "\n"

-- a member is that, and should be other
abbrev pub demand_line : Demand → List ℕ → List ℕ
demand_line m stands = is_text m.name stands ++ should_text m.allowed

-- a line on that demand is added
abbrev pub AddsDemand : List ℕ → Data → Demand → List ℕ → List ℕ → Type 0
AddsDemand line d m old new = (stands : List ℕ)
    × Stands line m.allowed (get (name_text m.name) d) stands × (new ≡ old ++ demand_line m stands)

-- of a value that is an object or none, and the demand that it fails, what is added
abbrev pub AddsWrong : Bool → Option Demand → List ℕ → Data → List ℕ → List ℕ → Type 0
AddsWrong false failing line d old new = new ≡ old ++ codes "  the line is no object\n"
AddsWrong true None line d old new = new ≡ old
AddsWrong true (Some m) line d old new = AddsDemand line d m old new

-- a line is added on the first member, in the order of the format, that doesn't pass the test
abbrev pub AddsMember : LineKind → Test → List ℕ → Data → List ℕ → List ℕ → Type 0
AddsMember sort test line d old new =
    AddsWrong (is_some (as_object d)) (first_failing test d (needed sort d)) line d old new

-- ---- the header

-- the header with which the file of such a line begins
unfoldable pub header_line : LineKind → List ℕ
header_line kind.OrderHeader =
    codes "  an order file begins with {\"abd\":\"orders\",\"version\":1}\n"
header_line other = codes "  a history file begins with {\"abd\":\"history\",\"version\":1}"
    ++ codes ", or with a header of version 2\n"

-- ---- lines

-- the line was read as that, and of a value a line was added on a member
abbrev pub AddsParsed : LineKind → Test → List ℕ → Parsed → List ℕ → List ℕ → Type 0
AddsParsed sort test line (parsed.Json value) old new =
    AddsMember sort test line (view value) old new
AddsParsed sort test line (parsed.Broken why) old new = new ≡ old

-- a line is added on the first member of the line that doesn't pass the test
abbrev pub AddsWrongMember : LineKind → Test → List ℕ → List ℕ → List ℕ → Type 0
AddsWrongMember sort test line old new =
    (read : Parsed) × Parses line read × AddsParsed sort test line read old new

-- why the line is no JSON is added, where it is none
abbrev pub AddsReason : Bool → Parsed → List ℕ → List ℕ → Type 0
AddsReason has_end (parsed.Json value) old new = new ≡ old
AddsReason has_end (parsed.Broken why) old new =
    new ≡ old ++ (broken_text why ++ cut_text has_end)

-- the same of the line's bytes
abbrev pub AddsBroken : List ℕ → Bool → List ℕ → List ℕ → Type 0
AddsBroken bytes has_end old new =
    (read : Parsed) × Parses bytes read × AddsReason has_end read old new

-- why the line has a fault of the first line is added: the member, and the header
abbrev pub AddsHeader : LineKind → List ℕ → List ℕ → List ℕ → Type 0
AddsHeader line bytes old new = (with_member : List ℕ)
    × AddsWrongMember line test.Range bytes old with_member
    × (new ≡ with_member ++ header_line line)

-- there is no byte and no end
abbrev pub is_gone : List ℕ → Bool → Bool
is_gone [] has_end = not has_end
is_gone (byte ∷ bytes) has_end = false

-- the same of a line that is there
abbrev pub AddsNoJson : Bool → List ℕ → Bool → List ℕ → List ℕ → Type 0
AddsNoJson true bytes has_end old new = new ≡ old
AddsNoJson false bytes has_end old new = AddsBroken bytes has_end old new

-- how many calls the file of such a line may have
abbrev pub limit_text : LineKind → List ℕ
limit_text kind.HistoryHeader = codes "  a history file has at most 1,000,000 calls\n"
limit_text kind.OrderHeader =
    codes "  all orders of a file together have at most 1,000,000 calls\n"
limit_text (kind.Row halls) = codes "  a history file has at most 1,000,000 calls\n"
limit_text kind.Piece = codes "  all orders of a file together have at most 1,000,000 calls\n"

-- why the line has that fault is added: of a fault that a line has by itself, or of a call too
-- many; else nothing
abbrev pub AddsLine : FaultyLine → LineFault → List ℕ → List ℕ → Type 0
AddsLine line TooLong old new = new ≡ old ++ codes "  a line has at most 65,536 bytes\n"
AddsLine line TooManyCalls old new = new ≡ old ++ limit_text line.kind
AddsLine line NotJson old new =
    AddsNoJson (is_gone line.bytes.now line.has_end) line.bytes.now line.has_end old new
AddsLine line Member old new = AddsWrongMember line.kind test.Kind line.bytes.now old new
AddsLine line Range old new = AddsWrongMember line.kind test.Range line.bytes.now old new
AddsLine line NoHeader old new = AddsHeader line.kind line.bytes.now old new
AddsLine line Version old new = AddsHeader line.kind line.bytes.now old new
AddsLine line other old new = new ≡ old
