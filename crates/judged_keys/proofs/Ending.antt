-- What was read, and what is made of it.
use Rattle.std.proofs.Common.{◌≡◌, List, [], Result, Ok, Err, sym, subst, ◌∙◌}
use Rattle.std.specs.Prelude.{IfOk, IfErr}
use Rattle.recorder.specs.declared.order.KeyOrder.{KeyOrder}
use Rattle.counted_devices.specs.DeviceStates.{DeviceStates}
use Rattle.file_format.specs.declared.file_header.FileHeader.{FileHeader}
use Rattle.file_format.specs.declared.hall_row.HallRow.{HallRow}
use Rattle.history_file.specs.NumberedRows.{MakesNumbered}
use Rattle.history_file.specs.declared.numbered_format.NumberedHistories.{NumberedHistories}
use Rattle.recorder.specs.Halls.{AreHalls, RecordedHalls}
use Rattle.recorder.specs.Histories.{Recorded}
use Rattle.parallel_keys.specs.CheckedKeys.{CheckedKey, KeyParts, all_parts, checked_keys}
use Rattle.parallel_keys.specs.Histories.{AreHallParts}
use Rattle.cli.specs.Devices.{WriterStates}
use Rattle.cli.specs.Outcomes.{Ends}
use Rattle.cli.specs.Readings.{IsHistoryRead, ReadsOrders}
use Rattle.cli.specs.declared.outcome.Outcome.{Outcome}
use Rattle.cli.specs.declared.status.Failure.{Failure}
use Rattle.cli.specs.declared.status.Failure.TheVariants as failure
use Rattle.cli.specs.declared.status.Status.{Status}
use Rattle.cli.proofs.Endings.{concluded}
use Rattle.cli.proofs.Reading.{pieces_read}
use Rattle.judged_keys.specs.Files.{AreInFiles, HaveKeys, IsOfKeys, ReadsKeys, ReadsKeysAndOrders, ReadsNumbered}
use Rattle.judged_keys.specs.Halls.{HasLinesOfEach}
use Rattle.judged_keys.specs.declared.files.Files.{Files}

-- a history that was read with its lines was read
pub history_read : (reader : DeviceStates) (numbered : NumberedHistories) → ReadsNumbered reader numbered → IsHistoryRead reader
history_read reader numbered read =
    let r = read.fact.1 in
    record {
      histories = numbered.histories;
      read = record {
        bytes = read.bytes;
        given = read.given;
        fact = (read.fact.0, record { lines = r.lines; rest = r.rest; splits = r.splits; some = r.some; header = r.header; items = r.items; read = r.read; made = r.made.made });
      };
    }

-- its halls have their lines
pub lines_of_each : (header : FileHeader) (items : List HallRow) (numbered : NumberedHistories) → MakesNumbered header items numbered → HasLinesOfEach numbered
lines_of_each header items numbered made = made.lines.count ∙ sym made.made.count

module _ (history : DeviceStates) (files : Files) (read : ReadsNumbered history files.numbered) (numbered : NumberedHistories) (keys : List CheckedKey) (are : AreInFiles files numbered keys) where
  -- the keys of both files
  pub with_orders : (orders : DeviceStates) → ReadsOrders orders files.orders.items → ReadsKeysAndOrders history orders numbered keys
  with_orders orders orders_read = record {
    read = subst (ReadsNumbered history) are.same read;
    pieces = orders_read.fact.1.items;
    orders_read = pieces_read orders files.orders.items orders_read;
    joined = files.orders.items;
    are_joined = orders_read.fact.1.made;
    keys_are = are.keys_are;
  }

  -- the keys of the history
  pub without_orders : files.orders.items ≡ [] → ReadsKeys history numbered keys
  without_orders none = record {
    read = subst (ReadsNumbered history) are.same read;
    keys_are = subst (λ (orders : List KeyOrder). HaveKeys numbered.histories orders keys) none are.keys_are;
  }

-- how the files were read is told otherwise
read_so : (Makes : NumberedHistories → List CheckedKey → Outcome → Type 0) (Reads Also : NumberedHistories → List CheckedKey → Type 0)
    → ((numbered : NumberedHistories) (keys : List CheckedKey) → Reads numbered keys → Also numbered keys) → (outcome : Outcome) → IsOfKeys Makes Reads outcome → IsOfKeys Makes Also outcome
read_so Makes Reads Also more outcome of = record { numbered = of.numbered; keys = of.keys; read = more of.numbered of.keys of.read; made = of.made }

-- the keys of parts and orders
pub have_keys : (histories : RecordedHalls) (halls : List Recorded) (parts : List KeyParts) (orders : List KeyOrder) (keys : List CheckedKey) → AreHalls histories → halls ≡ histories.halls → AreHallParts halls parts
    → keys ≡ checked_keys (all_parts parts) orders → HaveKeys histories orders keys
have_keys histories halls parts orders keys lawful same split are = record { lawful = lawful; parts = parts; recorded = subst (λ (hs : List Recorded). AreHallParts hs parts) same split; are = are }

-- what was made of files that were read was sent, or wasn't made
module _ {W E : Type 0} (out : WriterStates W) (errors : WriterStates E) (Makes : NumberedHistories → List CheckedKey → Outcome → Type 0)
    (Stops : Failure → Type 0) (memory : (why : Failure) → why ≡ failure.Memory → Stops why)
    (files : Files) (made : Result Outcome Failure) (makes : IfOk made (IsOfKeys Makes (AreInFiles files))) (stops : IfErr made (λ why. why ≡ failure.Memory))
    (s : Status) (ends : Ends (λ outcome. made ≡ Ok outcome) (λ why. made ≡ Err why) out errors s)
    (history : DeviceStates) (read : ReadsNumbered history files.numbered) where
  -- of both files
  pub of_both : (orders : DeviceStates) → ReadsOrders orders files.orders.items → Ends (IsOfKeys Makes (ReadsKeysAndOrders history orders)) Stops out errors s
  of_both orders orders_read =
      concluded out errors (IsOfKeys Makes (AreInFiles files)) (IsOfKeys Makes (ReadsKeysAndOrders history orders)) (λ why. why ≡ failure.Memory) Stops made makes stops
      (read_so Makes (AreInFiles files) (ReadsKeysAndOrders history orders) (λ numbered keys are. with_orders history files read numbered keys are orders orders_read)) memory s ends

  -- of the history alone
  pub of_history : files.orders.items ≡ [] → Ends (IsOfKeys Makes (ReadsKeys history)) Stops out errors s
  of_history none =
      concluded out errors (IsOfKeys Makes (AreInFiles files)) (IsOfKeys Makes (ReadsKeys history)) (λ why. why ≡ failure.Memory) Stops made makes stops
      (read_so Makes (AreInFiles files) (ReadsKeys history) (λ numbered keys are. without_orders history files read numbered keys are none)) memory s ends
