-- What pieces add to a text.
use Rattle.std.proofs.Common.{ℕ, ◌≡◌, List, [], ◌++◌, sym, append_assoc, append-nil}
use Rattle.std.specs.List.{fold}
use Rattle.std.proofs.lemmas.List.Folds.{fold_along}
use Rattle.explanations.specs.declared.hall_rows.HallRows.{HallRows}
use Rattle.explanations.specs.declared.pieces.Piece.{Piece}
use Rattle.explanations.specs.declared.pieces.Piece.TheVariants as piece
use Rattle.explanations.specs.Pieces.{pieces_text, with_piece}

module _ (key : List ℕ) (hall : HallRows) (old : List ℕ) where
  -- a piece adds the same to a text and to a text that ends with it
  moved : (all text : List ℕ) (p : Piece) → all ≡ old ++ text → with_piece key hall all p ≡ old ++ with_piece key hall text p
  moved all text (piece.Words words) e = rw e (simp append_assoc)
  moved all text (piece.Key words) e = rw e (simp append_assoc)
  moved all text (piece.Number words number) e = rw e (simp append_assoc)
  moved all text (piece.Op words op) e = rw e (simp append_assoc)
  moved all text (piece.Noted tag) e = rw e (simp append_assoc)
  moved all text (piece.Above action tag) e = rw e (simp append_assoc)
  moved all text (piece.Due value) e = rw e (simp append_assoc)
  moved all text (piece.Line words call) e = rw e (simp append_assoc)
  moved all text (piece.Placed words place call) e = rw e (simp append_assoc)

  -- pieces that are added one after another are their text
  pub said : (pieces : List Piece) → fold (with_piece key hall) old pieces ≡ old ++ pieces_text key hall pieces
  said pieces =
      fold_along (with_piece key hall) (with_piece key hall) (λ (all text : List ℕ). all ≡ old ++ text)
      (λ all text p e. moved all text p e) old [] pieces (sym (append-nil old))
