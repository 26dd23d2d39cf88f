-- When a row may follow, by what is kept of the rows before it.
use Rattle.std.specs.Prelude.{ℕ, ◌≡◌, ◌≢◌, Bool, true, false, Some, None}
use Rattle.tag.specs.declared.actions.Returned.{Returned}
use Rattle.tag.specs.declared.actions.Returned.TheVariants.{Value, Written}
use Rattle.open_calls.specs.declared.open_call.OpenCall.{OpenCall}
use Rattle.open_calls.specs.declared.refusal.CallRefusal.{CallRefusal}
use Rattle.open_calls.specs.declared.refusal.CallRefusal.TheVariants.{OutOfTurn, ClientBusy}
use Rattle.open_calls.specs.declared.refusal.CallRefusal.TheVariants.{NotPending, WrongKind}
use Rattle.open_calls.specs.declared.refusal.CallRefusal.TheVariants.{NoteTwice}
use Rattle.open_calls.specs.Open.{Open, call_at, HasCallOf}

-- whether the answer is a write's
abbrev pub is_written : Returned → Bool
is_written (Value value) = false
is_written Written = true

module _ {T : Type 0} (state : Open T) where
  -- the number is the next one, and the client has no pending call
  pub record MayBegin (number client : ℕ) : Type 0 where
    pub next : number ≡ state.begun
    pub idle : HasCallOf state client → ⊥

  -- why the call can't begin
  abbrev pub IsBeginRefused : ℕ → ℕ → CallRefusal → Type 0
  IsBeginRefused number client OutOfTurn = number ≢ state.begun
  IsBeginRefused number client ClientBusy = (number ≡ state.begun) × HasCallOf state client
  IsBeginRefused number client refusal = ⊥

  -- the call is pending, and has no note
  pub record MayBeNoted (number : ℕ) (call : OpenCall T) : Type 0 where
    pub is : call_at state number ≡ Some call
    pub first : call.is_noted ≡ false

  -- why the call can't be noted
  abbrev pub IsNoteRefused : ℕ → CallRefusal → Type 0
  IsNoteRefused number NotPending = call_at state number ≡ None
  IsNoteRefused number NoteTwice =
      (call : OpenCall T) × (call_at state number ≡ Some call) × (call.is_noted ≡ true)
  IsNoteRefused number refusal = ⊥

  -- the call is pending, and of that kind
  pub record MayBeAnswered (number : ℕ) (is_write : Bool) (call : OpenCall T) : Type 0 where
    pub is : call_at state number ≡ Some call
    pub kind : call.is_write ≡ is_write

  -- why the call can't be answered
  abbrev pub IsAnswerRefused : ℕ → Bool → CallRefusal → Type 0
  IsAnswerRefused number is_write NotPending = call_at state number ≡ None
  IsAnswerRefused number is_write WrongKind =
      (call : OpenCall T) × (call_at state number ≡ Some call) × (call.is_write ≢ is_write)
  IsAnswerRefused number is_write refusal = ⊥
