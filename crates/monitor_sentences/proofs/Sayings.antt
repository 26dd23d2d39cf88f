-- What pieces add to a text.
use Rattle.std.proofs.Common.{ℕ, ◌≡◌, List, [], ◌++◌, sym, append_assoc, append-nil}
use Rattle.std.specs.List.{fold}
use Rattle.std.proofs.lemmas.List.Folds.{fold_along}
use Rattle.monitor_sentences.specs.declared.pieces.Piece.{Piece}
use Rattle.monitor_sentences.specs.declared.pieces.Piece.TheVariants as piece
use Rattle.monitor_sentences.specs.Pieces.{pieces_text, with_piece}

module _ (old : List ℕ) where
  -- a piece adds the same to a text and to a text that ends with it
  moved : (all text : List ℕ) (p : Piece) → all ≡ old ++ text → with_piece all p ≡ old ++ with_piece text p
  moved all text (piece.Words words) e = rw e (simp append_assoc)
  moved all text (piece.Number words number) e = rw e (simp append_assoc)
  moved all text (piece.Quoted words) e = rw e (simp append_assoc)
  moved all text (piece.Tag tag) e = rw e (simp append_assoc)

  -- pieces that are added one after another are their text
  pub said : (pieces : List Piece) → fold with_piece old pieces ≡ old ++ pieces_text pieces
  said pieces =
      fold_along with_piece with_piece (λ (all text : List ℕ). all ≡ old ++ text)
      (λ all text p e. moved all text p e) old [] pieces (sym (append-nil old))
