use Rattle.std.proofs.Common.{List, ℕ, ◌≡◌, ◌+◌, length}
use Rattle.std.specs.List.{flat_map}
use Rattle.std.specs.Vec.Iter.{into_iter_items, into_iter_len}
use Rattle.line_files.specs.LinesRead.{ShownUnder}
use Rattle.line_files.proofs.LineByLine.{Goes}
use Rattle.line_files.proofs.progress.Progress.record.Given as goal

abbrev pub invariant-loop-run : goal.invariant-loop-run
invariant-loop-run g l = record {
  goes : (lines : List (List ℕ)) → ShownUnder g.C.Contents.Shows (g.C.Contents.context l.initial.self.contents) lines l.fn.judgements → Goes g.C.Contents.rules g.C.Contents.Reads g.C.Contents.context g.C.Contents.Shows lines l.initial.self l.self (flat_map (λ run. run.items) (into_iter_items l.run-iterator));
  known : into_iter_len l.run-iterator ≡ length (into_iter_items l.run-iterator);
  room : l.self.lines + length (flat_map (λ run. run.items) (into_iter_items l.run-iterator)) ≡ l.initial.self.lines + length l.fn.judgements;
}
