-- What was read, and how it was checked.
use Rattle.std.proofs.Common.{List, refl}
use Rattle.recorder.specs.declared.order.KeyOrder.{KeyOrder}
use Rattle.recorder.specs.Halls.{RecordedHalls}
use Rattle.counted_devices.specs.DeviceStates.{DeviceStates}
use Rattle.cli.specs.Checks.{ChecksFiles, MakesCheck}
use Rattle.cli.specs.Readings.{ReadsHistories, ReadsOrders, ReadsPieces}
use Rattle.cli.specs.declared.outcome.Outcome.{Outcome}
use Rattle.command_line.specs.declared.lines.Lines.{Lines}

-- the pieces of an order file that was read
pub pieces_read : (reader : DeviceStates) (orders : List KeyOrder) (read : ReadsOrders reader orders) → ReadsPieces reader read.fact.1.items
pieces_read reader orders read =
    let r = read.fact.1 in
    record {
      bytes = read.bytes;
      given = read.given;
      fact = (read.fact.0, record { lines = r.lines; rest = r.rest; splits = r.splits; some = r.some; header = r.header; items = r.items; read = r.read; made = refl });
    }

-- the check of what was read is that of the files
pub files_checked : (form : Lines) (history orders_file : DeviceStates) (histories : RecordedHalls) (orders : List KeyOrder) → ReadsHistories history histories → ReadsOrders orders_file orders
    → (outcome : Outcome) → MakesCheck form histories orders outcome → ChecksFiles form history orders_file outcome
files_checked form history orders_file histories orders history_read read outcome made =
    let pieces = read.fact.1.items in
    let joined = read.fact.1.made in
    record {
      histories = histories;
      pieces = pieces;
      history_read = history_read;
      orders_read = pieces_read orders_file orders read;
      is = made.is pieces joined;
      lines = made.lines pieces joined;
      quiet = made.quiet;
    }
