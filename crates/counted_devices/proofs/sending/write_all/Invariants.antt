use Rattle.std.proofs.Common.{◌≡◌, length}
use Rattle.counted_devices.specs.Sendings.{Leaves}
use Rattle.counted_devices.proofs.sending.write_all.Given as goal

abbrev pub invariant-loop-rest : goal.invariant-loop-rest
invariant-loop-rest g l = record {
  left : Leaves (g.W.Write.contents l.fn.writer) (g.W.Write.contents l.writer) l.fn.bytes l.rest;
  same : g.W.Counted.failures l.writer ≡ g.W.Counted.failures l.fn.writer;
}

abbrev pub decreases-loop-rest : goal.decreases-loop-rest
decreases-loop-rest g l = length l.rest
