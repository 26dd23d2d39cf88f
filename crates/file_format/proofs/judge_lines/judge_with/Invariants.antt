use Rattle.std.proofs.Common.{length}
use Rattle.counted_devices.proofs.Chunks.{Shown}
use Rattle.file_format.specs.Lines.{LineShows}
use Rattle.file_format.proofs.judge_lines.judge_with.Given as goal

abbrev pub invariant-loop-end : goal.invariant-loop-end
invariant-loop-end g l = record {
  shown : Shown (LineShows (g.T.LineItem.meaning l.header)) l.chunk l.run.items l.rest;
}

abbrev pub decreases-loop-end : goal.decreases-loop-end
decreases-loop-end g l = length l.rest
