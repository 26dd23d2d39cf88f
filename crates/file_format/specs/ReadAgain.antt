-- Texts that are read as what they were made of, and as nothing else.
use Rattle.std.specs.Prelude.{ℕ, ◌≡◌, List, map}
use Rattle.tag.specs.Limits.{call_limit}
use Rattle.recorder.specs.Halls.{RecordedHalls}
use Rattle.recorder.specs.Histories.{Recorded}
use Rattle.recorder.specs.declared.row.Row.{Row}
use Rattle.recorder.specs.declared.order.KeyOrder.{KeyOrder}
use Rattle.file_format.specs.Readings.{Reads}
use Rattle.file_format.specs.HistoryFormat.{history_format, MakesHistory}
use Rattle.file_format.specs.LongHistories.{long_history_format, MakesRows}
use Rattle.file_format.specs.HistoriesFormat.{histories_format, MakesHistories}
use Rattle.file_format.specs.OrderFormat.{order_format, MakesJoined}

-- the text is read as the history of the rows, and as no other one
pub record IsTextOf (text : List ℕ) (rows : List Row) : Type 0 where
  pub read : Reads history_format MakesHistory text (record { rows = rows; limit = call_limit })
  pub alone : (history : Recorded) → Reads history_format MakesHistory text history → history.rows
      ≡ rows

-- the text is read as a history of any length of the rows, and as no others
pub record IsTextOfRows (text : List ℕ) (rows : List Row) : Type 0 where
  pub read : Reads long_history_format MakesRows text rows
  pub alone : (others : List Row) → Reads long_history_format MakesRows text others → others
      ≡ rows

-- the text is read as the orders, and as no others
pub record IsTextOfOrders (text : List ℕ) (orders : List KeyOrder) : Type 0 where
  pub read : Reads order_format MakesJoined text orders
  pub alone : (others : List KeyOrder) → Reads order_format MakesJoined text others → others
      ≡ orders

-- each history, with room for 1,000,000 calls
abbrev pub with_room : List Recorded → List Recorded
with_room halls = map (λ history. record { rows = history.rows; limit = call_limit }) halls

-- the text is read as the histories' rows by hall and their quorums, and as no others
pub record IsTextOfHistories (text : List ℕ) (histories : RecordedHalls) : Type 0 where
  pub read : Reads histories_format MakesHistories text (record {
    halls = with_room histories.halls;
    quorums = histories.quorums;
  })
  pub alone : (others : RecordedHalls) → Reads histories_format MakesHistories text others → others
      ≡ record { halls = with_room histories.halls; quorums = histories.quorums }
