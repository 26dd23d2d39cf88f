use Rattle.std.proofs.Common.{◌≡◌, drop}
use Rattle.counted_devices.specs.Sendings.{Leaves, pieces_text}
use Rattle.counted_devices.proofs.sending.write_pieces.Given as goal

abbrev pub invariant-loop-piece : goal.invariant-loop-piece
invariant-loop-piece g l = record {
  left : Leaves (g.W.Write.contents l.fn.writer) (g.W.Write.contents l.writer) (pieces_text l.pieces) (pieces_text (drop l.piece-index l.pieces));
  same : g.W.Counted.failures l.writer ≡ g.W.Counted.failures l.fn.writer;
}
