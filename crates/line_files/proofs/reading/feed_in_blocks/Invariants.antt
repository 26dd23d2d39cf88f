use Rattle.std.proofs.Common.{◌≡◌, ◌<◌, ◌≤◌, ◌-◌, ◌^◌, length}
use Rattle.counted_devices.specs.Deliveries.{Holds}
use Rattle.line_files.specs.Ahead.{StandsAhead}
use Rattle.line_files.proofs.reading.feed_in_blocks.Given as goal

abbrev pub invariant-reads : goal.invariant-reads
invariant-reads g l = record {
  holds : Holds (StandsAhead g.C.Contents.Reads g.C.Contents.context g.C.Contents.Shows) (g.R.Read.remaining l.fn.reader) (g.R.Read.remaining l.reader) l.ahead;
  same : (g.R.Counted.failures l.reader) ≡ (g.R.Counted.failures l.fn.reader);
  fed : l.ahead.fed ≤ (g.R.Counted.given l.reader);
  some : 0 < length l.room;
}

abbrev pub decreases-reads : goal.decreases-reads
decreases-reads g l = 2 ^ 62 - (g.R.Counted.given l.reader)
