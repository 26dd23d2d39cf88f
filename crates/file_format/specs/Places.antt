-- Whether a row may stand where it stands, and which fault it has otherwise.
use Rattle.std.specs.Prelude.{ℕ, ◌≡◌, ◌≢◌, ◌≤◌, List, Result, Ok, Err}
use Rattle.tag.specs.declared.actions.Action.{Action}
use Rattle.tag.specs.Limits.{call_limit}
use Rattle.recorder.specs.declared.row.Row.{Row}
use Rattle.recorder.specs.declared.row.Row.TheVariants.{Invoke, Note, Respond}
use Rattle.recorder.specs.Histories.{Recorded, MayFollow, IsBusy, IsPendingOp, IsPendingCall}
use Rattle.recorder.specs.Histories.{HasNote, FitsAction, call_count}
use Rattle.recorder.specs.Answers.{with_row}
use Rattle.file_format.specs.declared.fault.LineFault.{LineFault}
use Rattle.file_format.specs.declared.fault.LineFault.TheVariants.{CallOutOfTurn, ClientBusy}
use Rattle.file_format.specs.declared.fault.LineFault.TheVariants.{CallNotPending, WrongKind}
use Rattle.file_format.specs.declared.fault.LineFault.TheVariants.{NoteTwice, TooManyCalls}
use Rattle.file_format.specs.Faults.{LineStop}
use Rattle.counted_devices.specs.declared.read_fault.Stop.TheVariants as stop

module _ (rows : List Row) where
  -- an invocation's call isn't the next number
  abbrev pub IsOutOfTurn : Row → Type 0
  IsOutOfTurn (Invoke op client key action) = op.0 ≢ call_count rows
  IsOutOfTurn row = ⊥

  -- an invocation by a client with a pending call
  abbrev pub IsByBusy : Row → Type 0
  IsByBusy (Invoke op client key action) = IsBusy rows client
  IsByBusy row = ⊥

  -- a note or a response for a call that isn't pending
  abbrev pub IsUnasked : Row → Type 0
  IsUnasked (Note op tag) = IsPendingOp rows op → ⊥
  IsUnasked (Respond op returned) = IsPendingOp rows op → ⊥
  IsUnasked row = ⊥

  -- a response with a value for a write, or without one for a read
  abbrev pub IsUnfit : Row → Type 0
  IsUnfit (Respond op returned) = (client : ℕ) × (action : Action)
      × IsPendingCall rows op client action × (FitsAction action returned → ⊥)
  IsUnfit row = ⊥

  -- a second note for a pending call
  abbrev pub IsSecondNote : Row → Type 0
  IsSecondNote (Note op tag) = IsPendingOp rows op × HasNote rows op
  IsSecondNote row = ⊥

-- the 1,000,001st call, where so many began before
abbrev pub IsOneTooMany : ℕ → Row → Type 0
IsOneTooMany calls (Invoke op client key action) = call_limit ≤ calls
IsOneTooMany calls row = ⊥

-- the first fault, in order of number, that the row has after those rows of its hall, where so many
-- calls began in all halls
abbrev pub IsMisplacedAfter : ℕ → List Row → Row → LineFault → Type 0
IsMisplacedAfter calls rows row CallOutOfTurn = IsOutOfTurn rows row
IsMisplacedAfter calls rows row ClientBusy = (IsOutOfTurn rows row → ⊥) × IsByBusy rows row
IsMisplacedAfter calls rows row CallNotPending = IsUnasked rows row
IsMisplacedAfter calls rows row WrongKind = IsUnfit rows row
IsMisplacedAfter calls rows row NoteTwice = IsSecondNote rows row
IsMisplacedAfter calls rows row TooManyCalls =
    (IsOutOfTurn rows row → ⊥) × (IsByBusy rows row → ⊥) × IsOneTooMany calls row
IsMisplacedAfter calls rows row fault = ⊥

-- the same of one hall alone
abbrev pub IsMisplaced : List Row → Row → LineFault → Type 0
IsMisplaced rows row fault = IsMisplacedAfter (call_count rows) rows row fault

-- the row has no fault where it stands
abbrev pub IsPlacedAfter : ℕ → List Row → Row → Type 0
IsPlacedAfter calls rows row = MayFollow rows row × (IsOneTooMany calls row → ⊥)

module _ (calls : ℕ) (old : Recorded) (row : Row) where
  -- the row is added at the end, or it has that fault; memory is wanted only for a row without one
  abbrev pub FollowsAfter : Result (Unit {0}) LineStop → Recorded → Type 0
  FollowsAfter (Ok done) new = (new ≡ with_row old row) × (IsOneTooMany calls row → ⊥)
  FollowsAfter (Err (stop.Fault fault)) new =
      IsMisplacedAfter calls old.rows row fault × (new ≡ old)
  FollowsAfter (Err stop.Memory) new = IsPlacedAfter calls old.rows row × (new ≡ old)

  -- the same of a hall's history that may have 1,000,000 calls, no more than began in all halls
  abbrev pub FollowsInHall : Result (Unit {0}) LineStop → Recorded → Type 0
  FollowsInHall result new =
      old.limit ≡ call_limit → call_count old.rows ≤ calls → FollowsAfter result new

-- the same of one hall alone
abbrev pub FollowsRow : Recorded → Row → Result (Unit {0}) LineStop → Recorded → Type 0
FollowsRow old row result new = FollowsAfter (call_count old.rows) old row result new
