-- What is read of files whose keys are judged, and how a command ends that makes something of them.
use Rattle.std.specs.Prelude.{◌≡◌, List, []}
use Rattle.recorder.specs.Halls.{AreHalls, RecordedHalls}
use Rattle.recorder.specs.declared.order.KeyOrder.{KeyOrder}
use Rattle.counted_devices.specs.DeviceStates.{DeviceStates}
use Rattle.counted_devices.specs.Deliveries.{ReadsFrom}
use Rattle.file_format.specs.HistoriesFormat.{histories_format}
use Rattle.file_format.specs.OrderFormat.{AreJoined, order_format}
use Rattle.file_format.specs.Readings.{Reads}
use Rattle.history_file.specs.NumberedRows.{MakesNumbered}
use Rattle.history_file.specs.declared.numbered_format.NumberedHistories.{NumberedHistories}
use Rattle.parallel_keys.specs.CheckedKeys.{AreDistinct, CheckedKey, KeyParts, all_parts}
use Rattle.parallel_keys.specs.CheckedKeys.{checked_keys}
use Rattle.parallel_keys.specs.Histories.{AreHallParts}
use Rattle.cli.specs.Devices.{FileStates, WriterStates}
use Rattle.cli.specs.Outcomes.{Ends}
use Rattle.cli.specs.Readings.{IsHistoryRead, ReadsOrders, ReadsPieces, StopsFile}
use Rattle.cli.specs.Reports.{StopsBoth, StopsHistory}
use Rattle.cli.specs.declared.outcome.Outcome.{Outcome}
use Rattle.cli.specs.declared.status.Status.{Status}
use Rattle.judged_keys.specs.Halls.{HasLinesOfEach}
use Rattle.judged_keys.specs.declared.files.FaultyFile.{FaultyFile}
use Rattle.judged_keys.specs.declared.files.FaultyFile.TheVariants as faulty
use Rattle.judged_keys.specs.declared.files.Files.{Files}

-- the reader came to its end, and gave these histories, each row with its line
abbrev pub ReadsNumbered : DeviceStates → NumberedHistories → Type 0
ReadsNumbered reader numbered = ReadsFrom (Reads histories_format MakesNumbered) reader numbered

-- the reading of the history stopped at that fault; or it was read, and that of the orders did
abbrev pub StopsAt : DeviceStates → DeviceStates → FaultyFile → Type 0
StopsAt history orders (faulty.History fault) = StopsFile histories_format history fault
StopsAt history orders (faulty.Orders fault) =
    IsHistoryRead history × StopsFile order_format orders fault

-- the same of a history without orders
abbrev pub StopsAtHistory : DeviceStates → FaultyFile → Type 0
StopsAtHistory history (faulty.History fault) = StopsFile histories_format history fault
StopsAtHistory history (faulty.Orders fault) = ⊥

-- both files were read
pub record AreRead (history orders : DeviceStates) : Type 0 where
  pub history_read : IsHistoryRead history
  pub are : List KeyOrder
  pub orders_read : ReadsOrders orders are

-- each hall has its lines, and no key two orders
pub record CanBeJudged (files : Files) : Type 0 where
  pub lines : HasLinesOfEach files.numbered
  pub distinct : AreDistinct files.orders.items

-- the keys that `abd check` has of these histories and orders, in its order
pub record HaveKeys (histories : RecordedHalls) (orders : List KeyOrder) (keys : List CheckedKey)
    : Type 0 where
  pub lawful : AreHalls histories
  pub parts : List KeyParts
  pub recorded : AreHallParts histories.halls parts
  pub are : keys ≡ checked_keys (all_parts parts) orders

-- the files have these histories, with their lines, and these keys
pub record AreInFiles (files : Files) (numbered : NumberedHistories) (keys : List CheckedKey)
    : Type 0 where
  pub same : files.numbered ≡ numbered
  pub keys_are : HaveKeys numbered.histories files.orders.items keys

module _ (history : DeviceStates) where
  -- the history was read, and these are its keys, hall by hall, in each in the order in which its
  -- rows first see them
  pub record ReadsKeys (numbered : NumberedHistories) (keys : List CheckedKey) : Type 0 where
    pub read : ReadsNumbered history numbered
    pub keys_are : HaveKeys numbered.histories [] keys

  -- both files were read, and these are their keys, each with its order
  pub record ReadsKeysAndOrders (orders : DeviceStates) (numbered : NumberedHistories)
      (keys : List CheckedKey) : Type 0 where
    pub read : ReadsNumbered history numbered
    pub pieces : List KeyOrder
    pub orders_read : ReadsPieces orders pieces
    pub joined : List KeyOrder
    pub are_joined : AreJoined pieces joined
    pub keys_are : HaveKeys numbered.histories joined keys

module _ (Makes : NumberedHistories → List CheckedKey → Outcome → Type 0) where
  -- files were read so, and that is made of their keys
  pub record IsOfKeys (Reads : NumberedHistories → List CheckedKey → Type 0) (outcome : Outcome)
      : Type 0 where
    pub numbered : NumberedHistories
    pub keys : List CheckedKey
    pub read : Reads numbered keys
    pub made : Makes numbered keys outcome

  -- how a command ends that makes that of the keys of both files
  abbrev pub EndsOnBoth : {W E : Type 0} → FileStates → FileStates → WriterStates W
      → WriterStates E → Status → Type 0
  EndsOnBoth history orders out errors s =
      Ends (IsOfKeys (ReadsKeysAndOrders history.reader orders.reader))
      (StopsBoth history orders) out errors s

  -- how a command ends that makes that of the keys of a history
  abbrev pub EndsOnHistory : {W E : Type 0} → FileStates → WriterStates W → WriterStates E → Status
      → Type 0
  EndsOnHistory history out errors s =
      Ends (IsOfKeys (ReadsKeys history.reader)) (StopsHistory history) out errors s
