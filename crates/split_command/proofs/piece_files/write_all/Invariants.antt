use Rattle.std.proofs.Common.{ℕ, List}
use Rattle.split_command.specs.PieceTexts.{AreBegun}
use Rattle.split_command.proofs.Filling.{AreSentTo}
use Rattle.split_command.proofs.piece_files.write_all.Given as goal

abbrev pub invariant-loop-piece : goal.invariant-loop-piece
invariant-loop-piece g l = (pieces : ℕ → List ℕ) → AreBegun g.W.Write.contents pieces l.fn.writers l.texts
    → AreSentTo g.W.Write.contents pieces l.fn.writers l.writers l.piece
