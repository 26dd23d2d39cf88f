-- What is said of the first fault of a history file or of an order file.
use Rattle.std.specs.Prelude.{ℕ, ◌≡◌, ◌⊎◌, ◌++◌, ◌==◌, ◌&&◌, List, [], ◌∷◌, Bool, true, false}
use Rattle.std.specs.Prelude.{Option, Some, None, Err, codes, decimal, min, nat_le, option_map}
use Rattle.std.specs.Prelude.{slice_get, take, unwrap_or, if◌then◌else◌}
use Rattle.serde_json.specs.Data.{Data}
use Rattle.serde_json.specs.View.{view}
use Rattle.tag.specs.Names.{is_key}
use Rattle.counted_devices.specs.declared.read_fault.FaultKind.TheVariants.{Line, Device, Memory}
use Rattle.counted_devices.specs.declared.read_fault.FaultKind as kinds
use Rattle.counted_devices.specs.Deliveries.{Delivers, ReadsAll}
use Rattle.counted_devices.specs.DeviceStates.{DeviceStates}
use Rattle.counted_devices.specs.FirstFaults.{StopsAt}
use Rattle.recorder.specs.Halls.{hall_limit, hall_of}
use Rattle.recorder.specs.Histories.{Recorded}
use Rattle.file_format.specs.declared.file_header.FileHeader.{FileHeader}
use Rattle.file_format.specs.Faults.{FileFault}
use Rattle.file_format.specs.FileHeaders.{file_header_in, halls_in, quorums_in}
use Rattle.file_format.specs.Files.{file_faults, IsHeader}
use Rattle.file_format.specs.HistoriesFormat.{histories_format}
use Rattle.file_format.specs.Lines.{LineShows}
use Rattle.file_format.specs.Members.{number_at, text_at}
use Rattle.file_format.specs.Readings.{Reads}
use Rattle.file_format.specs.declared.fault.LineFault.{LineFault}
use Rattle.file_format.specs.declared.fault.LineFault.TheVariants.{CallOutOfTurn, ClientBusy}
use Rattle.file_format.specs.declared.fault.LineFault.TheVariants.{CallNotPending, WrongKind}
use Rattle.file_format.specs.declared.fault.LineFault.TheVariants.{NoteTwice, KeyInAnotherHall}
use Rattle.history_file.specs.declared.numbered_format.NumberedHistories.{NumberedHistories}
use Rattle.history_file.specs.NumberedRows.{MakesNumbered}
use Rattle.fault_details.specs.declared.demands.LineKind.{LineKind}
use Rattle.fault_details.specs.declared.demands.LineKind.TheVariants as kind
use Rattle.fault_details.specs.declared.earlier_rows.EarlierRows.{EarlierRows}
use Rattle.fault_details.specs.declared.found_line.FoundLine.{FoundLine}
use Rattle.fault_details.specs.declared.json_line.Parsed.{Parsed}
use Rattle.fault_details.specs.declared.json_line.Parsed.TheVariants as parsed
use Rattle.fault_details.specs.declared.line_details.FaultyLine.{FaultyLine}
use Rattle.fault_details.specs.FoundLines.{FindsLine}
use Rattle.fault_details.specs.LineDetails.{AddsLine, Parses}
use Rattle.fault_details.specs.RowDetails.{row_text}

-- the fault depends on the rows of the line's hall before it
abbrev pub needs_earlier_rows : LineFault → Bool
needs_earlier_rows CallOutOfTurn = true
needs_earlier_rows ClientBusy = true
needs_earlier_rows CallNotPending = true
needs_earlier_rows WrongKind = true
needs_earlier_rows NoteTwice = true
needs_earlier_rows other = false

-- ---- the halls of the file

-- how many halls a header of version 2 tells
abbrev pub halls_told : FileHeader → Option ℕ
halls_told header = option_map (λ quorums. halls_in header) (quorums_in header)

-- so many halls the file's first line tells: none where it is of version 1, or no header
abbrev pub Tells : List ℕ → Option ℕ → Type 0
Tells first halls =
    ((header : FileHeader) × IsHeader histories_format first header × (halls ≡ halls_told header))
    ⊎ ((fault : LineFault) × LineShows file_header_in first (Err fault) × (halls ≡ None))

-- the key's hall, of so many
unfoldable pub hall_line : List ℕ → ℕ → ℕ → List ℕ
hall_line key hall count = codes "  key " ++ key ++ codes " is of hall " ++ decimal hall
    ++ codes " (of " ++ decimal count ++ codes ")\n"

-- what is said of a key, of so many halls
abbrev pub key_text : ℕ → Option (List ℕ) → List ℕ
key_text count None = []
key_text count (Some key) = if is_key key && (nat_le 1 count && nat_le count hall_limit)
    then hall_line key (hall_of count key) count else []

-- the hall of the key of the line, of so many, is said
abbrev pub AddsKeyHall : ℕ → Parsed → List ℕ → List ℕ → Type 0
AddsKeyHall count (parsed.Json value) old new =
    new ≡ old ++ key_text count (text_at (codes "key") (view value))
AddsKeyHall count (parsed.Broken why) old new = new ≡ old

-- ---- the earlier rows

-- the rows of a hall before the line are those
pub record AreEarlier (hall : Option ℕ) (history : Recorded) (lines : List ℕ)
    (earlier : EarlierRows) : Type 0 where
  pub of_hall : earlier.hall ≡ hall
  pub of_rows : earlier.history.now ≡ history
  pub of_lines : earlier.lines.now ≡ lines

-- the hall of the row: its number in a file of several, else 0
abbrev pub hall_in : Option ℕ → Data → Option ℕ
hall_in None d = Some 0
hall_in (Some halls) d = option_map (λ hall. min hall 255) (number_at (codes "hall") d)

-- the hall as it is named: only where a file has several
abbrev pub named_hall : Option ℕ → ℕ → Option ℕ
named_hall None hall = None
named_hall (Some halls) hall = Some hall

-- the call, or the client, of the row; 0 if it has none
abbrev pub number_or_zero : List ℕ → Data → ℕ
number_or_zero name d = unwrap_or (number_at name d) 0

-- why the row has that fault after the rows of its hall, which may not be there
abbrev pub AddsInHall : Option ℕ → Option Recorded → Option (List ℕ) → LineFault → Data → List ℕ
    → List ℕ → Type 0
AddsInHall hall (Some history) (Some lines) fault d old new =
    (earlier : EarlierRows) × AreEarlier hall history lines earlier
    × (new ≡ old ++ row_text earlier fault (number_or_zero (codes "call") d)
    (number_or_zero (codes "client") d))
AddsInHall hall history lines fault d old new = new ≡ old

-- the same of the hall of that number
abbrev pub AddsAtHall : Option ℕ → NumberedHistories → Option ℕ → LineFault → Data → List ℕ → List ℕ
    → Type 0
AddsAtHall halls numbered None fault d old new = new ≡ old
AddsAtHall halls numbered (Some hall) fault d old new =
    AddsInHall (named_hall halls hall) (slice_get numbered.histories.halls hall)
    (slice_get numbered.lines.items hall) fault d old new

-- the same of the row's own hall
abbrev pub AddsRow : Option ℕ → NumberedHistories → LineFault → Data → List ℕ → List ℕ → Type 0
AddsRow halls numbered fault d old new =
    AddsAtHall halls numbered (hall_in halls d) fault d old new

-- of a reader that has those bytes, so many are read as histories
pub record ReadsEarlier (all : Option (List ℕ)) (count : ℕ) (numbered : NumberedHistories) : Type 0
  where
    pub left : Option (List ℕ)
    pub read : Delivers (option_map (take count) all) left
        (ReadsAll (Reads histories_format MakesNumbered) left numbered)

-- they have a fault, or can't be read
pub record StopsEarlier (all : Option (List ℕ)) (count : ℕ) : Type 0 where
  pub left : Option (List ℕ)
  pub fault : FileFault
  pub stops : Delivers (option_map (take count) all) left
      (StopsAt (file_faults histories_format) left fault)

-- why the row of the line has the fault after those of so many bytes before it
abbrev pub AddsAfter : Option (List ℕ) → ℕ → Option ℕ → LineFault → Parsed → List ℕ → List ℕ
    → Type 0
AddsAfter all begins halls fault (parsed.Broken why) old new = new ≡ old
AddsAfter all begins halls fault (parsed.Json value) old new =
    ((numbered : NumberedHistories) × ReadsEarlier all begins numbered
    × AddsRow halls numbered fault (view value) old new)
    ⊎ (StopsEarlier all begins × (new ≡ old))

-- ---- the line

-- the line is that, of the first kind if it is the file's first, else of the other
pub record IsFaulty (line : FoundLine) (first other : LineKind) (faulty : FaultyLine) : Type 0 where
  pub of_kind : faulty.kind ≡ (if line.number == 1 then first else other)
  pub of_bytes : faulty.bytes.now ≡ line.bytes.items
  pub of_end : faulty.has_end ≡ line.has_end

-- what the line was read as, of which something is said
abbrev pub OfParsed : FoundLine → (Parsed → List ℕ → List ℕ → Type 0) → List ℕ → List ℕ → Type 0
OfParsed line Adds old new = (read : Parsed) × Parses line.bytes.items read × Adds read old new

-- why the line has that fault by itself is added
abbrev pub AddsByItself : LineKind → LineKind → FoundLine → LineFault → List ℕ → List ℕ → Type 0
AddsByItself first other line fault old new =
    (faulty : FaultyLine) × IsFaulty line first other faulty × AddsLine faulty fault old new

-- the key of the row is one of another hall
abbrev pub is_of_keys : LineFault → Bool
is_of_keys KeyInAnotherHall = true
is_of_keys other = false

-- why a line of a history file of so many halls has the fault is added
abbrev pub AddsInHalls : Bool → ℕ → FoundLine → LineFault → List ℕ → List ℕ → Type 0
AddsInHalls true count line fault old new = OfParsed line (AddsKeyHall count) old new
AddsInHalls false count line fault old new =
    AddsByItself kind.HistoryHeader (kind.Row (Some count)) line fault old new

-- the same of either version: by itself, ..
abbrev pub AddsHistoryLine : Option ℕ → FoundLine → LineFault → List ℕ → List ℕ → Type 0
AddsHistoryLine None line fault old new =
    AddsByItself kind.HistoryHeader (kind.Row None) line fault old new
AddsHistoryLine (Some count) line fault old new =
    AddsInHalls (is_of_keys fault) count line fault old new

-- .. or after the earlier rows, which a reader that has those bytes gives
abbrev pub AddsHistoryIn : Option (List ℕ) → Bool → Option ℕ → FoundLine → LineFault → List ℕ
    → List ℕ → Type 0
AddsHistoryIn all true halls line fault old new =
    OfParsed line (AddsAfter all line.begins halls fault) old new
AddsHistoryIn all false halls line fault old new = AddsHistoryLine halls line fault old new

-- the same where the file's first line tells the halls
abbrev pub AddsHistory : Option (List ℕ) → FoundLine → LineFault → List ℕ → List ℕ → Type 0
AddsHistory all line fault old new = (halls : Option ℕ) × Tells line.first.items halls
    × AddsHistoryIn all (needs_earlier_rows fault) halls line fault old new

-- why a line of an order file has that fault is added
abbrev pub AddsOrders : FoundLine → LineFault → List ℕ → List ℕ → Type 0
AddsOrders line fault old new = AddsByItself kind.OrderHeader kind.Piece line fault old new

-- ---- what is said

-- where there is nothing to say of the line, as it has no fault any more or is gone, that is said
abbrev pub said : List ℕ → List ℕ
said [] = codes "  the file can't be read again as it was\n"
said (byte ∷ bytes) = byte ∷ bytes

module _ {L : Type 0} (Adds : FoundLine → L → List ℕ → List ℕ → Type 0) where
  -- what is said of a line that is there or not
  abbrev pub AddsFound : L → Option FoundLine → List ℕ → Type 0
  AddsFound fault None body = body ≡ []
  AddsFound fault (Some line) body = Adds line fault [] body

  -- that is said of the line
  pub record SaysOfLine (line : Option FoundLine) (fault : L) (text : List ℕ) : Type 0 where
    pub body : List ℕ
    pub adds : AddsFound fault line body
    pub is : text ≡ said body

  -- it is said of the line of that number, of those that a reader gave
  pub record Says (reader : DeviceStates) (number : ℕ) (fault : L) (text : List ℕ) : Type 0 where
    pub line : Option FoundLine
    pub finds : FindsLine reader number line
    pub says : SaysOfLine line fault text

-- of a fault of a line that is said, of others nothing
abbrev pub Explains : {L : Type 0} → (FoundLine → L → List ℕ → List ℕ → Type 0) → DeviceStates → ℕ
    → kinds.FaultKind L → List ℕ → Type 0
Explains Adds reader number (Line fault) text = Says Adds reader number fault text
Explains Adds reader number Device text = text ≡ []
Explains Adds reader number Memory text = text ≡ []
