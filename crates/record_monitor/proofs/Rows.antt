-- What a row makes of a monitor.
use Rattle.std.proofs.Common.{◌≡◌, List, [], ◌∷◌, ◌++◌, Option, Some, Result, Ok, Err, IfSome, ap, subst, sym}
use Rattle.std.proofs.Common.{refl}
use Rattle.std.specs.Prelude.{⊤}
use Rattle.recorder.specs.declared.row.Row.{Row}
use Rattle.growing_parts.proofs.Rows.{formed_next}
use Rattle.open_calls.specs.declared.refusal.CallRefusal.{CallRefusal}
use Rattle.open_calls.specs.declared.refusal.CallRefusal.TheVariants.{OutOfTurn, ClientBusy, NotPending, WrongKind, NoteTwice, Memory}
use Rattle.record_monitor.specs.declared.taken.Taken.{Taken}
use Rattle.record_monitor.specs.Monitored.{Takes, left_of}
use Rattle.record_monitor.specs.Taken.{KeepsSome, TakesNext}

module _ (rows : List Row) (old new : Taken) (row : Row) where
  pub takes_by : (answer : Result ⊤ CallRefusal) → TakesNext rows old row answer new → Takes rows (Some old) row answer (left_of (Some new) answer)
  takes_by (Ok done) t = t
  takes_by (Err OutOfTurn) t = (t.0, ap Some (t.1 (λ e. absurd (cc e))))
  takes_by (Err ClientBusy) t = (t.0, ap Some (t.1 (λ e. absurd (cc e))))
  takes_by (Err NotPending) t = (t.0, ap Some (t.1 (λ e. absurd (cc e))))
  takes_by (Err WrongKind) t = (t.0, ap Some (t.1 (λ e. absurd (cc e))))
  takes_by (Err NoteTwice) t = (t.0, ap Some (t.1 (λ e. absurd (cc e))))
  takes_by (Err Memory) t = (t.0, refl)

module _ (old new : Taken) (k : KeepsSome old) (row : Row) where
  same_some : new ≡ old → KeepsSome new
  same_some e = subst KeepsSome (sym e) k

  pub some_by : (answer : Result ⊤ CallRefusal) → TakesNext k.rows old row answer new → IfSome (left_of (Some new) answer) KeepsSome
  some_by (Ok done) t = record { rows = k.rows ++ row ∷ []; formed = formed_next k.rows row k.formed t.0; keeps = t.1 }
  some_by (Err OutOfTurn) t = same_some (t.1 (λ e. absurd (cc e)))
  some_by (Err ClientBusy) t = same_some (t.1 (λ e. absurd (cc e)))
  some_by (Err NotPending) t = same_some (t.1 (λ e. absurd (cc e)))
  some_by (Err WrongKind) t = same_some (t.1 (λ e. absurd (cc e)))
  some_by (Err NoteTwice) t = same_some (t.1 (λ e. absurd (cc e)))
  some_by (Err Memory) t = tt

-- what the row makes of what was kept
pub carried : (rows : List Row) (row : Row) (old new left : Option Taken) (taken : Taken) (answer : Result ⊤ CallRefusal)
    → old ≡ Some taken → new ≡ left → Takes rows (Some taken) row answer left → Takes rows old row answer new
carried rows row old new left taken answer e g t =
    subst (λ (o : Option Taken). Takes rows o row answer new) (sym e)
    (subst (λ (n : Option Taken). Takes rows (Some taken) row answer n) (sym g) t)
