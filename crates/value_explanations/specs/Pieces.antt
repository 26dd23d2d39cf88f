-- Pieces that lines are made of.
use Rattle.std.specs.Prelude.{ℕ, List, [], ◌++◌, decimal, fold}
use Rattle.value_explanations.specs.declared.pieces.Piece.{Piece}
use Rattle.value_explanations.specs.declared.pieces.Piece.TheVariants as piece

-- a text, and then what a piece says
abbrev pub with_piece : List ℕ → Piece → List ℕ
with_piece text (piece.Words words) = text ++ words.now
with_piece text (piece.Op words op) = text ++ words.now ++ decimal op.0

-- what pieces say, one after another
abbrev pub pieces_text : List Piece → List ℕ
pieces_text pieces = fold with_piece [] pieces
