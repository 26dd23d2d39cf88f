use Rattle.std.proofs.Common.{◌≡◌, ◌++◌, drop}
use Rattle.counted_devices.specs.Sendings.{Leaves}
use Rattle.file_format.specs.Ranges.{IsWritten}
use Rattle.file_format.specs.Texts.{histories_text}
use Rattle.file_format.proofs.HallTexts.{lines_from}
use Rattle.file_format.proofs.EachElement.{AllBefore}
use Rattle.file_format.proofs.writing.write_histories.Given as goal

abbrev pub invariant-loop-hall : goal.invariant-loop-hall
invariant-loop-hall g l = record {
  left : Leaves (g.W.Write.contents l.fn.writer) (g.W.Write.contents l.writer) (histories_text l.histories) (l.batch.items
      ++ lines_from l.header l.hall (drop l.hall l.halls));
  range : AllBefore IsWritten l.halls l.hall;
  same : (g.W.Counted.failures l.writer) ≡ (g.W.Counted.failures l.fn.writer);
}
