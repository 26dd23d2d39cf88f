use Rattle.std.proofs.Common.{◌≡◌, take}
use Rattle.std.specs.List.{fold}
use Rattle.explanations.specs.Pieces.{with_piece}
use Rattle.explanations.proofs.pieces.Subject.say.Given as goal

abbrev pub invariant-loop-piece : goal.invariant-loop-piece
invariant-loop-piece l = l.text.items ≡ fold (with_piece l.self.key.now l.self.hall) l.initial.text.items (take l.piece-index l.pieces)
