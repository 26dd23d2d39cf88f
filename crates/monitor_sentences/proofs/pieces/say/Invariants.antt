use Rattle.std.proofs.Common.{◌≡◌, take}
use Rattle.std.specs.List.{fold}
use Rattle.monitor_sentences.specs.Pieces.{with_piece}
use Rattle.monitor_sentences.proofs.pieces.say.Given as goal

abbrev pub invariant-loop-piece : goal.invariant-loop-piece
invariant-loop-piece l = l.text.items ≡ fold with_piece l.initial.text.items (take l.piece-index l.pieces)
