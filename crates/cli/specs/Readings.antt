-- What a command reads from a file: all of it, or up to its first fault.
use Rattle.std.specs.Prelude.{◌≡◌, List}
use Rattle.recorder.specs.declared.order.KeyOrder.{KeyOrder}
use Rattle.recorder.specs.Halls.{RecordedHalls}
use Rattle.counted_devices.specs.Deliveries.{ReadsFrom}
use Rattle.counted_devices.specs.DeviceStates.{DeviceStates}
use Rattle.counted_devices.specs.FirstFaults.{StopsFrom}
use Rattle.counted_devices.specs.ReadFaults.{FailsFrom}
use Rattle.file_format.specs.Faults.{FileFault}
use Rattle.file_format.specs.Formats.{Format}
use Rattle.file_format.specs.HistoriesFormat.{histories_format, MakesHistories}
use Rattle.file_format.specs.OrderFormat.{MakesJoined, order_format}
use Rattle.file_format.specs.Readings.{Reads}
use Rattle.file_format.specs.Files.{file_faults}

-- the reader came to its end, and gave these histories
abbrev pub ReadsHistories : DeviceStates → RecordedHalls → Type 0
ReadsHistories reader histories =
    ReadsFrom (Reads histories_format MakesHistories) reader histories

-- the reader came to its end, and gave histories
pub record IsHistoryRead (reader : DeviceStates) : Type 0 where
  pub histories : RecordedHalls
  pub read : ReadsHistories reader histories

-- the reader came to its end, and gave an order file of these pieces
abbrev pub ReadsPieces : DeviceStates → List KeyOrder → Type 0
ReadsPieces reader pieces =
    ReadsFrom (Reads order_format (λ header items all. all ≡ items)) reader pieces

-- the reader came to its end, and gave an order file whose pieces make these orders
abbrev pub ReadsOrders : DeviceStates → List KeyOrder → Type 0
ReadsOrders reader orders = ReadsFrom (Reads order_format MakesJoined) reader orders

-- the reading of a file stopped at that fault, which is the first; a device's is one that was
-- counted
abbrev pub StopsFile : {Header Item : Type 0} → Format Header Item → DeviceStates → FileFault
    → Type 0
StopsFile format reader fault =
    StopsFrom (file_faults format) reader fault × FailsFrom reader fault
