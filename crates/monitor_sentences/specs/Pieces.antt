-- Pieces that lines are made of.
use Rattle.std.specs.Prelude.{ℕ, List, [], ◌++◌, decimal, fold}
use Rattle.sentences.specs.Words.{quoted_text, tag_text}
use Rattle.monitor_sentences.specs.declared.pieces.Piece.{Piece}
use Rattle.monitor_sentences.specs.declared.pieces.Piece.TheVariants as piece

-- a text, and then what a piece says
abbrev pub with_piece : List ℕ → Piece → List ℕ
with_piece text (piece.Words words) = text ++ words.now
with_piece text (piece.Number words number) = text ++ words.now ++ decimal number
with_piece text (piece.Quoted words) = text ++ quoted_text words.now
with_piece text (piece.Tag tag) = text ++ tag_text tag

-- what pieces say, one after another
abbrev pub pieces_text : List Piece → List ℕ
pieces_text pieces = fold with_piece [] pieces
