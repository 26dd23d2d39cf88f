-- Which rows may follow, and what is kept of the rows before them.
use Rattle.std.specs.Prelude.{ℕ, ◌≡◌, ◌≢◌, ◌↔◌, true, List, [], ◌∷◌, ◌++◌, Some, IsSome}
use Rattle.std.specs.Prelude.{Result, Ok, Err}
use Rattle.tag.specs.declared.actions.Action.{Action}
use Rattle.tag.specs.declared.numbers.OpId.{OpId}
use Rattle.recorder.specs.declared.row.Row.{Row}
use Rattle.recorder.specs.declared.row.Row.TheVariants.{Invoke, Note, Respond}
use Rattle.recorder.specs.Histories.{MayFollow, IsBusy, IsPendingOp, IsPendingCall}
use Rattle.recorder.specs.Histories.{HasNote, FitsAction, call_count}
use Rattle.recorder.specs.States.{is_write}
use Rattle.open_calls.specs.declared.open_call.OpenCall.{OpenCall}
use Rattle.open_calls.specs.declared.refusal.CallRefusal.{CallRefusal}
use Rattle.open_calls.specs.declared.refusal.CallRefusal.TheVariants.{OutOfTurn, ClientBusy}
use Rattle.open_calls.specs.declared.refusal.CallRefusal.TheVariants.{NotPending, WrongKind}
use Rattle.open_calls.specs.declared.refusal.CallRefusal.TheVariants.{NoteTwice, Memory}
use Rattle.open_calls.specs.Open.{Open, call_at}

module _ (rows : List Row) where
  -- the refusal is the first of the list that applies to the row after those rows, and memory only
  -- where none does
  abbrev pub IsRefusedAfter : Row → CallRefusal → Type 0
  IsRefusedAfter (Invoke op client key action) OutOfTurn = op.0 ≢ call_count rows
  IsRefusedAfter (Invoke op client key action) ClientBusy =
      (op.0 ≡ call_count rows) × IsBusy rows client
  IsRefusedAfter (Note op tag) NotPending = IsPendingOp rows op → ⊥
  IsRefusedAfter (Note op tag) NoteTwice = IsPendingOp rows op × HasNote rows op
  IsRefusedAfter (Respond op returned) NotPending = IsPendingOp rows op → ⊥
  IsRefusedAfter (Respond op returned) WrongKind = (client : ℕ) × (action : Action)
      × IsPendingCall rows op client action × (FitsAction action returned → ⊥)
  IsRefusedAfter row Memory = MayFollow rows row
  IsRefusedAfter _ _ = ⊥

module _ {T : Type 0} (rows : List Row) where
  -- the call is pending, and that is kept of it: its client, its kind, whether it has a note
  pub record IsKept (op : OpId) (call : OpenCall T) : Type 0 where
    pub action : Action
    pub pending : IsPendingCall rows op call.client action
    pub kind : call.is_write ≡ is_write action
    pub noted : (call.is_noted ≡ true) ↔ HasNote rows op

  -- how many calls the rows begin, and exactly their pending calls, are kept
  pub record KeepsOpen (state : Open T) : Type 0 where
    pub begun : state.begun ≡ call_count rows
    pub each : (op : OpId) (call : OpenCall T) → call_at state op.0 ≡ Some call → IsKept op call
    pub all : (op : OpId) → IsPendingOp rows op → IsSome (call_at state op.0)

-- the row is taken after those rows, or it is refused and nothing changes
abbrev pub TakesRow : {X T : Type 0} → List Row → Open T → Row → Result X CallRefusal → Open T
    → Type 0
TakesRow rows old row (Ok x) new = MayFollow rows row × KeepsOpen (rows ++ row ∷ []) new
TakesRow rows old row (Err refusal) new = IsRefusedAfter rows row refusal × (new ≡ old)
