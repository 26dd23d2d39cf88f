-- What the lines of a file make.
use Rattle.std.specs.Prelude.{◌≡◌, List}
use Rattle.recorder.specs.declared.order.KeyOrder.{KeyOrder}
use Rattle.file_format.specs.OrderFormat.{AreJoined, call_total}
use Rattle.file_format.specs.declared.file_header.FileHeader.{FileHeader}
use Rattle.file_format.specs.declared.hall_row.HallRow.{HallRow}
use Rattle.file_format.specs.HistoriesFormat.{MakesHistories}
use Rattle.history_file.specs.KeyedOrders.{KeyedOrders}
use Rattle.history_file.specs.NumberedRows.{AreLinesByHall}
use Rattle.history_file.specs.declared.numbered_format.NumberedHalls.{NumberedHalls}

-- the orders that the pieces make, and how many calls they have
pub record MakesOrders (header : Unit {0}) (pieces : List KeyOrder) (orders : KeyedOrders) : Type 0
  where
    pub joined : AreJoined pieces orders.orders
    pub counted : orders.calls ≡ call_total pieces

-- the histories of halls that the rows make, and the lines of the rows of each hall
pub record MakesNumberedHalls (header : FileHeader) (items : List HallRow)
    (numbered : NumberedHalls) : Type 0 where
  pub made : MakesHistories header items numbered.halls
  pub lines : AreLinesByHall header items numbered.lines.items
