-- A row that is refused has the fault that is answered.
use Rattle.std.proofs.Common.{List}
use Rattle.recorder.specs.declared.row.Row.{Row}
use Rattle.recorder.specs.declared.row.Row.TheVariants.{Invoke, Note, Respond}
use Rattle.open_calls.specs.declared.refusal.CallRefusal.{CallRefusal}
use Rattle.open_calls.specs.declared.refusal.CallRefusal.TheVariants as refusal
use Rattle.open_calls.specs.Rows.{IsRefusedAfter}
use Rattle.line_answers.specs.Stops.{IsStoppedAfter, stop_of}

module _ (rows : List Row) where
  pub stopped : (row : Row) (why : CallRefusal) → IsRefusedAfter rows row why → IsStoppedAfter rows row (stop_of why)
  stopped (Invoke op client key action) refusal.OutOfTurn t = t
  stopped (Note op tag) refusal.OutOfTurn t = absurd t
  stopped (Respond op returned) refusal.OutOfTurn t = absurd t
  stopped (Invoke op client key action) refusal.ClientBusy t = (λ out. out t.0, t.1)
  stopped (Note op tag) refusal.ClientBusy t = absurd t
  stopped (Respond op returned) refusal.ClientBusy t = absurd t
  stopped (Invoke op client key action) refusal.NotPending t = absurd t
  stopped (Note op tag) refusal.NotPending t = t
  stopped (Respond op returned) refusal.NotPending t = t
  stopped (Invoke op client key action) refusal.WrongKind t = absurd t
  stopped (Note op tag) refusal.WrongKind t = absurd t
  stopped (Respond op returned) refusal.WrongKind t = t
  stopped (Invoke op client key action) refusal.NoteTwice t = absurd t
  stopped (Note op tag) refusal.NoteTwice t = t
  stopped (Respond op returned) refusal.NoteTwice t = absurd t
  stopped (Invoke op client key action) refusal.Memory t = t
  stopped (Note op tag) refusal.Memory t = t
  stopped (Respond op returned) refusal.Memory t = t
