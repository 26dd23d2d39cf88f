-- Pieces that sentences are made of.
use Rattle.std.specs.Prelude.{List, [], ◌++◌, ℕ, decimal, fold}
use Rattle.explanations.specs.Sentences.{above_text, call_line, due_line, placed_line}
use Rattle.sentences.specs.Words.{tag_text}
use Rattle.explanations.specs.declared.hall_rows.HallRows.{HallRows}
use Rattle.explanations.specs.declared.pieces.Piece.{Piece}
use Rattle.explanations.specs.declared.pieces.Piece.TheVariants as piece

module _ (key : List ℕ) (hall : HallRows) where
  -- a text, and then what a piece says
  abbrev pub with_piece : List ℕ → Piece → List ℕ
  with_piece text (piece.Words words) = text ++ words.now
  with_piece text (piece.Key words) = text ++ words.now ++ key
  with_piece text (piece.Number words number) = text ++ words.now ++ decimal number
  with_piece text (piece.Op words op) = text ++ words.now ++ decimal op.0
  with_piece text (piece.Noted tag) = text ++ tag_text tag
  with_piece text (piece.Above action tag) = text ++ above_text action.now tag
  with_piece text (piece.Due value) = text ++ due_line value
  with_piece text (piece.Line words call) = text ++ call_line key hall words.now call.now
  with_piece text (piece.Placed words place call) =
      text ++ placed_line key hall words.now place call.now

  -- what pieces say, one after another
  abbrev pub pieces_text : List Piece → List ℕ
  pieces_text pieces = fold with_piece [] pieces
