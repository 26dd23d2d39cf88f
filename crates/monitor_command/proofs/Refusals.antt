-- A row that a monitor refuses has the fault that is answered.
use Rattle.std.proofs.Common.{◌≡◌, List, Ok, Err, Option, Result, sym, subst}
use Rattle.recorder.specs.declared.row.Row.{Row}
use Rattle.file_format.specs.LongHistories.{IsTakenAfter}
use Rattle.line_answers.specs.Stops.{line_answer, stop_of}
use Rattle.line_answers.proofs.Refusals.{stopped}
use Rattle.open_calls.specs.declared.refusal.CallRefusal.{CallRefusal}
use Rattle.open_calls.specs.declared.refusal.CallRefusal.TheVariants as refusal
use Rattle.record_monitor.specs.declared.taken.Taken.{Taken}
use Rattle.record_monitor.specs.Monitored.{HasTaken, Takes}

module _ (rows : List Row) (old new : Option Taken) (taken : HasTaken rows old) where
  -- what was taken before is still so
  stays : new ≡ old → HasTaken rows new
  stays same = subst (λ (m : Option Taken). HasTaken rows m) (sym same) taken

  -- the fault of the row is the one that is answered
  refused : (row : Row) (why : CallRefusal) → Takes rows old row (Err why) new
      → IsTakenAfter HasTaken rows row (Err (stop_of why)) new
  refused row refusal.OutOfTurn t = (stopped rows row refusal.OutOfTurn t.0, stays t.1)
  refused row refusal.ClientBusy t = (stopped rows row refusal.ClientBusy t.0, stays t.1)
  refused row refusal.NotPending t = (stopped rows row refusal.NotPending t.0, stays t.1)
  refused row refusal.WrongKind t = (stopped rows row refusal.WrongKind t.0, stays t.1)
  refused row refusal.NoteTwice t = (stopped rows row refusal.NoteTwice t.0, stays t.1)
  refused row refusal.Memory t = stopped rows row refusal.Memory t.0

  pub answered : (row : Row) (answer : Result (Unit {0}) CallRefusal) → Takes rows old row answer new
      → IsTakenAfter HasTaken rows row (line_answer answer) new
  answered row (Ok done) t = (t.0, t.1)
  answered row (Err why) t = refused row why t
