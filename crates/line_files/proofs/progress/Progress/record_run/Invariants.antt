use Rattle.std.proofs.Common.{List, ℕ, ◌≡◌, ◌+◌, length}
use Rattle.std.specs.Vec.Iter.{into_iter_items, into_iter_len}
use Rattle.line_files.specs.LinesRead.{ShownUnder}
use Rattle.line_files.proofs.LineByLine.{Goes}
use Rattle.line_files.proofs.progress.Progress.record_run.Given as goal

abbrev pub invariant-loop-judgement : goal.invariant-loop-judgement
invariant-loop-judgement g l = record {
  goes : (lines : List (List ℕ)) → ShownUnder g.C.Contents.Shows (g.C.Contents.context l.initial.self.contents) lines l.fn.run.items → Goes g.C.Contents.rules g.C.Contents.Reads g.C.Contents.context g.C.Contents.Shows lines l.initial.self l.self (into_iter_items l.judgement-iterator);
  known : into_iter_len l.judgement-iterator ≡ length (into_iter_items l.judgement-iterator);
  room : l.self.lines + length (into_iter_items l.judgement-iterator) ≡ l.initial.self.lines + length l.fn.run.items;
}
