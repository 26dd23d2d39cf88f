use Rattle.std.proofs.Common.{◌≡◌, ◌<◌, ◌≤◌, ◌+◌, ◌-◌, ◌^◌, length}
use Rattle.counted_devices.specs.Deliveries.{Delivers}
use Rattle.fault_details.specs.FoundLines.{IsScan}
use Rattle.fault_details.proofs.found_line.find_line.Given as goal

abbrev pub invariant-reads : goal.invariant-reads
invariant-reads g l = record {
  scan : Delivers (g.R.Read.remaining l.fn.reader) (g.R.Read.remaining l.reader) (λ bytes. IsScan bytes l.scan);
  wanted : l.scan.wanted ≡ l.number;
  same : g.R.Counted.failures l.reader ≡ g.R.Counted.failures l.fn.reader;
  few : l.scan.under_way ≤ l.scan.fed + 1;
  fed : l.scan.fed ≤ g.R.Counted.given l.reader;
  some : 0 < length l.room.items;
}

abbrev pub decreases-reads : goal.decreases-reads
decreases-reads g l = 2 ^ 62 - g.R.Counted.given l.reader
