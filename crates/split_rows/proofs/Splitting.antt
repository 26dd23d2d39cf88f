-- What a row makes of a splitter.
use Rattle.std.proofs.Common.{ℕ, ◌≡◌, List, [], ◌∷◌, ◌++◌, Option, Some, None, Result, Ok, Err, IfOk, IfSome, OnErr, ap, subst, sym, ◌∙◌}
use Rattle.std.proofs.Common.{refl}
use Rattle.std.specs.Result.{result_ok}
use Rattle.tag.specs.declared.numbers.OpId.{OpId}
use Rattle.recorder.specs.declared.row.Row.{Row}
use Rattle.open_calls.specs.declared.refusal.CallRefusal.{CallRefusal}
use Rattle.open_calls.specs.declared.refusal.CallRefusal.TheVariants.{OutOfTurn, ClientBusy, NotPending, WrongKind, NoteTwice, Memory}
use Rattle.split_rows.specs.declared.moved.Moved.{Moved}
use Rattle.split_rows.specs.declared.taken.Taken.{Taken}
use Rattle.split_rows.specs.Pieces.{with_op, with_row, ArePieces}
use Rattle.split_rows.specs.Splits.{HasSplit, SplitsRow, left_of}
use Rattle.split_rows.specs.Taken.{KeepsSome, TakesNext}
use Rattle.split_rows.proofs.Rows.{formed_next}

module _ (parts : ℕ) (rows : List Row) (pieces : ℕ → List Row) (old new : Taken) (row : Row) where
  pub splits_by : (answer : Result Moved CallRefusal) → TakesNext parts rows pieces old row answer new
      → SplitsRow parts rows pieces (Some old) row answer (left_of new answer)
  splits_by (Ok moved) t = t
  splits_by (Err OutOfTurn) t = (t.0, ap Some (t.1 (λ e. absurd (cc e))))
  splits_by (Err ClientBusy) t = (t.0, ap Some (t.1 (λ e. absurd (cc e))))
  splits_by (Err NotPending) t = (t.0, ap Some (t.1 (λ e. absurd (cc e))))
  splits_by (Err WrongKind) t = (t.0, ap Some (t.1 (λ e. absurd (cc e))))
  splits_by (Err NoteTwice) t = (t.0, ap Some (t.1 (λ e. absurd (cc e))))
  splits_by (Err Memory) t = (t.0, refl)

module _ (old new : Taken) (k : KeepsSome old) (row : Row) where
  same_some : new ≡ old → KeepsSome new
  same_some e = subst KeepsSome (sym e) k

  pub some_by : (answer : Result Moved CallRefusal) → TakesNext k.parts k.rows k.pieces old row answer new
      → IfSome (left_of new answer) KeepsSome
  some_by (Ok moved) t = record {
    parts = k.parts;
    rows = k.rows ++ row ∷ [];
    pieces = with_row k.pieces moved.piece (with_op row moved.op);
    formed = formed_next k.rows row k.formed t.0;
    keeps = t.2;
  }
  some_by (Err OutOfTurn) t = same_some (t.1 (λ e. absurd (cc e)))
  some_by (Err ClientBusy) t = same_some (t.1 (λ e. absurd (cc e)))
  some_by (Err NotPending) t = same_some (t.1 (λ e. absurd (cc e)))
  some_by (Err WrongKind) t = same_some (t.1 (λ e. absurd (cc e)))
  some_by (Err NoteTwice) t = same_some (t.1 (λ e. absurd (cc e)))
  some_by (Err Memory) t = tt

-- what is taken out, and what the row makes of it
module _ {E : Type 0} where
  pub taken_ok : (r : Result Taken E) (o now : Option Taken) → o ≡ result_ok r → o ≡ now → IfSome o KeepsSome
      → IfOk r (λ taken. KeepsSome taken × (now ≡ Some taken))
  taken_ok (Ok taken) o now e view k = (subst (λ (x : Option Taken). IfSome x KeepsSome) e k, sym view ∙ e)
  taken_ok (Err d) o now e view k = tt

  pub taken_err : (r : Result Taken E) (o now : Option Taken) → o ≡ result_ok r → o ≡ now → OnErr r (now ≡ None)
  taken_err (Ok taken) o now e view = tt
  taken_err (Err d) o now e view = sym view ∙ e

pub carried : (parts : ℕ) (rows : List Row) (pieces : ℕ → List Row) (row : Row) (old new left : Option Taken) (taken : Taken)
    (answer result : Result Moved CallRefusal) → old ≡ Some taken → result ≡ answer → new ≡ left
    → SplitsRow parts rows pieces (Some taken) row answer left → SplitsRow parts rows pieces old row result new
carried parts rows pieces row old new left taken answer result e f g t =
    subst (λ (o : Option Taken). SplitsRow parts rows pieces o row result new) (sym e)
    (subst (λ (a : Result Moved CallRefusal). SplitsRow parts rows pieces (Some taken) row a new) (sym f)
    (subst (λ (n : Option Taken). SplitsRow parts rows pieces (Some taken) row answer n) (sym g) t))

pub pieces_of : (parts : ℕ) (rows : List Row) (pieces : ℕ → List Row) (splitter : Option Taken) → HasSplit parts rows pieces splitter
    → (keys : List (List ℕ)) × (number : OpId → OpId) × ArePieces parts rows keys number pieces
pieces_of parts rows pieces None has = absurd has
pieces_of parts rows pieces (Some taken) k = (taken.keys, k.number, k.are)
