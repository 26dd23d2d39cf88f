use Rattle.std.proofs.Common.{length, ◌-◌, ◌≡◌, ◌≤◌, ◌+◌, take}
use Rattle.std.specs.Io.KnownBytes.{Consumes}
use Rattle.line_files.proofs.batches.read_batch.Given as goal

abbrev pub invariant-reads : goal.invariant-reads
invariant-reads g l = record {
  bytes : Consumes (g.R.Read.remaining l.fn.reader) (g.R.Read.remaining l.reader) (take l.count l.room);
  given : (g.R.Counted.given l.reader) ≡ (g.R.Counted.given l.fn.reader) + l.count;
  same : (g.R.Counted.failures l.reader) ≡ (g.R.Counted.failures l.fn.reader);
  within : l.count ≤ length l.room;
}

abbrev pub decreases-reads : goal.decreases-reads
decreases-reads g l = length l.initial.room - l.count
