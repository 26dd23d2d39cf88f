use Rattle.split_command.specs.PieceTexts.{AreHeaders}
use Rattle.split_command.proofs.piece_files.headers.Given as goal

abbrev pub invariant-loop : goal.invariant-loop
invariant-loop l = AreHeaders l.counter l.texts.items
