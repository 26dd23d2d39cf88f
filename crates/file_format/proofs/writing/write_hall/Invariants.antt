use Rattle.std.proofs.Common.{◌≡◌, ◌++◌, drop}
use Rattle.std.specs.List.{flat_map}
use Rattle.counted_devices.specs.Sendings.{Leaves}
use Rattle.file_format.specs.Ranges.{IsRowInRange}
use Rattle.file_format.specs.Texts.{row_text_with}
use Rattle.file_format.proofs.EachElement.{AllBefore}
use Rattle.file_format.proofs.writing.write_hall.Given as goal

abbrev pub invariant-loop-place : goal.invariant-loop-place
invariant-loop-place g l = record {
  left : Leaves (g.W.Write.contents l.fn.writer) (g.W.Write.contents l.writer) (l.fn.batch.items
      ++ flat_map (row_text_with l.hall) l.history.rows) (l.batch.items ++ flat_map (row_text_with l.hall) (drop l.place l.history.rows));
  range : AllBefore IsRowInRange l.history.rows l.place;
  same : (g.W.Counted.failures l.writer) ≡ (g.W.Counted.failures l.fn.writer);
}
