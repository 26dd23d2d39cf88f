-- What a check of a history file and an order file comes to.
use Rattle.std.specs.Prelude.{ℕ, ◌≡◌, List, [], length, Some, slice_get}
use Rattle.recorder.specs.declared.part.Call.{Call}
use Rattle.recorder.specs.declared.order.KeyOrder.{KeyOrder}
use Rattle.recorder.specs.Histories.{Recorded}
use Rattle.recorder.specs.Halls.{RecordedHalls, hall_of}
use Rattle.recorder.specs.Records.{IsPart}
use Rattle.recorder.specs.Orders.{IsOrder}
use Rattle.file_format.specs.OrderFormat.{AreJoined, order_on}
use Rattle.counted_devices.specs.DeviceStates.{DeviceStates}
use Rattle.cli.specs.Devices.{FileStates, WriterStates}
use Rattle.cli.specs.Outcomes.{Ends, ended}
use Rattle.cli.specs.Readings.{ReadsHistories, ReadsPieces}
use Rattle.cli.specs.Reports.{StopsCheck}
use Rattle.cli.specs.VerdictLines.{AreCheckLines}
use Rattle.cli.specs.declared.outcome.Outcome.{Outcome}
use Rattle.command_line.specs.declared.lines.Lines.{Lines}
use Rattle.cli.specs.declared.status.Status.{Status}
use Rattle.cli.specs.declared.status.Status.TheVariants as status

-- the key's part in histories by hall: the one that it has in its own hall's
pub record IsHallPart (halls : List Recorded) (key : List ℕ) (part : List Call) : Type 0 where
  pub history : Recorded
  pub own : slice_get halls (hall_of (length halls) key) ≡ Some history
  pub recorded : IsPart history.rows key part

module _ (halls : List Recorded) (pieces : List KeyOrder) where
  -- the order that the pieces give for the key is one of its part
  pub record IsYes (key : List ℕ) : Type 0 where
    pub part : List Call
    pub recorded : IsHallPart halls key part
    pub ordered : IsOrder part (order_on key pieces)

  -- the order that the pieces give for the key is none of its part
  pub record IsNo (key : List ℕ) : Type 0 where
    pub part : List Call
    pub recorded : IsHallPart halls key part
    pub unordered : IsOrder part (order_on key pieces) → ⊥

  -- good if each key's order is one of its part, refused if some key's is none
  abbrev pub IsStatusOf : Status → Type 0
  IsStatusOf status.Good = (key : List ℕ) → IsYes key
  IsStatusOf status.Refused = (key : List ℕ) × IsNo key
  IsStatusOf s = ⊥

module _ (form : Lines) where
  -- a check of the histories, with orders that pieces make: whether each key's order is one of its
  -- part, and the lines in that form
  pub record MakesCheck (histories : RecordedHalls) (orders : List KeyOrder) (outcome : Outcome)
      : Type 0 where
    pub is : (pieces : List KeyOrder) → AreJoined pieces orders
        → IsStatusOf histories.halls pieces (ended outcome.found)
    pub lines : (pieces : List KeyOrder) → AreJoined pieces orders
        → AreCheckLines form histories.halls pieces outcome.text.items
    pub quiet : outcome.notes.items ≡ []

  -- both files were read to their ends, the status is that of their check, and the text has its
  -- lines in that form
  pub record ChecksFiles (history orders : DeviceStates) (outcome : Outcome) : Type 0 where
    pub histories : RecordedHalls
    pub pieces : List KeyOrder
    pub history_read : ReadsHistories history histories
    pub orders_read : ReadsPieces orders pieces
    pub is : IsStatusOf histories.halls pieces (ended outcome.found)
    pub lines : AreCheckLines form histories.halls pieces outcome.text.items
    pub quiet : outcome.notes.items ≡ []

-- how a check ends: both files were checked; or one isn't read to its end, or its keys aren't
-- checked
abbrev pub EndsCheck : {W E : Type 0} → Lines → ℕ → FileStates → FileStates → WriterStates W
    → WriterStates E → Status → Type 0
EndsCheck form workers history orders out errors s =
    Ends (ChecksFiles form history.reader orders.reader) (StopsCheck history orders workers)
    out errors s
