use Rattle.std.proofs.Common.{◌≡◌, ◌++◌, length}
use Rattle.counted_devices.specs.Sendings.{Leaves}
use Rattle.file_format.specs.Ranges.{AreOps}
use Rattle.file_format.specs.Texts.{order_text}
use Rattle.file_format.proofs.writing.write_order.Given as goal

abbrev pub invariant-loop-rest : goal.invariant-loop-rest
invariant-loop-rest g l = record {
  left : Leaves (g.W.Write.contents l.fn.writer) (g.W.Write.contents l.writer) (l.fn.batch.items ++ order_text l.order) (l.batch.items
      ++ order_text (record { key = l.order.key; order = l.rest }));
  range : AreOps l.rest → AreOps l.order.order;
  same : (g.W.Counted.failures l.writer) ≡ (g.W.Counted.failures l.fn.writer);
}

abbrev pub decreases-loop-rest : goal.decreases-loop-rest
decreases-loop-rest g l = length l.rest
