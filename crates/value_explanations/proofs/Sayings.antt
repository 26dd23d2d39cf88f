-- What pieces add to a text, and calls to a list.
use Rattle.std.proofs.Common.{ℕ, ◌≡◌, List, [], ◌++◌, refl, sym, append_assoc, append-nil}
use Rattle.std.specs.List.{fold}
use Rattle.std.proofs.lemmas.List.Folds.{fold_along}
use Rattle.tag.specs.declared.numbers.OpId.{OpId}
use Rattle.value_explanations.specs.declared.pieces.Piece.{Piece}
use Rattle.value_explanations.specs.declared.pieces.Piece.TheVariants as piece
use Rattle.value_explanations.specs.Pieces.{pieces_text, with_piece}
use Rattle.value_explanations.specs.ValueSentences.{with_call}

module _ (old : List ℕ) where
  -- a piece adds the same to a text and to a text that ends with it
  moved : (all text : List ℕ) (p : Piece) → all ≡ old ++ text → with_piece all p ≡ old ++ with_piece text p
  moved all text (piece.Words words) e = rw e (simp append_assoc)
  moved all text (piece.Op words op) e = rw e (simp append_assoc)

  -- pieces that are added one after another are their text
  pub said : (pieces : List Piece) → fold with_piece old pieces ≡ old ++ pieces_text pieces
  said pieces =
      fold_along with_piece with_piece (λ (all text : List ℕ). all ≡ old ++ text)
      (λ all text p e. moved all text p e) old [] pieces (sym (append-nil old))

  -- a call adds the same to a list and to a text that ends with it
  call_moved : (all text : List ℕ) (op : OpId) → all ≡ old ++ text → with_call all op ≡ old ++ with_call text op
  call_moved all text op e = rw e (simp append_assoc)

  -- so do calls, one after another
  pub listed : (text : List ℕ) (calls : List OpId) → fold with_call (old ++ text) calls ≡ old ++ fold with_call text calls
  listed text calls =
      fold_along with_call with_call (λ (all some : List ℕ). all ≡ old ++ some)
      (λ all some op e. call_moved all some op e) (old ++ text) text calls refl
