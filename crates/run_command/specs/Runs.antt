-- What a run of a store comes to.
use Rattle.std.specs.Prelude.{ℕ, ◌≡◌, ◌⊎◌, List, [], ◌∷◌, ◌++◌, Option, Some, None, Ok, Err}
use Rattle.counted_devices.specs.DeviceStates.{DeviceStates}
use Rattle.cli.specs.Devices.{Receives, ReceivesNothing, ReceivesOrFails, ReceivesPrefix}
use Rattle.cli.specs.declared.status.Status.{Status}
use Rattle.cli.specs.declared.status.Status.TheVariants as status
use Rattle.node_threads.specs.declared.closing.Closed.{Closed}
use Rattle.node_threads.specs.declared.closing.ClosedHall.{ClosedHall}
use Rattle.node_threads.specs.declared.errors.CloseError.{CloseError}
use Rattle.node_threads.specs.declared.errors.CloseError.TheVariants as close
use Rattle.command_line.specs.declared.asked.RunAsked.{RunAsked}
use Rattle.load_run.specs.LoadStores.{world_of}
use Rattle.load_run.specs.Loads.{IsLoaded}
use Rattle.load_run.specs.declared.error.LoadError.{LoadError}
use Rattle.load_run.specs.declared.load_run.LoadOutcome.{LoadOutcome}
use Rattle.run_command.specs.Messages.{AreEnding, ReceivesLines, close_line, load_line}
use Rattle.run_command.specs.Messages.{refusal_lines}
use Rattle.run_command.specs.RecordVerdicts.{IsFirstNoOfHalls}
use Rattle.run_command.specs.Records.{AreConfigured, record_of}
use Rattle.run_command.specs.Shown.{IsShownText}
use Rattle.run_command.specs.declared.check_record.RefusedKey.{RefusedKey}

-- the status of a run that didn't close its store
abbrev pub status_of_close : CloseError → Status
status_of_close close.SeatMismatch = status.Refused
status_of_close close.Memory = status.Failed

-- the status of a run whose first refused key is that
abbrev pub status_of_check : Option RefusedKey → Status
status_of_check None = status.Good
status_of_check (Some refused) = status.Refused

-- the halls were configured as was asked for, and that holds of the text that shows them
abbrev pub OfShownText : RunAsked → List ClosedHall → (List ℕ → Type 0) → Type 0
OfShownText asked halls P =
    AreConfigured (world_of asked.load) halls × (text : List ℕ)
    × IsShownText (record_of halls) asked.shown text × P text

-- what the status says of closed halls. Good: every key's verdict is yes, and the text went out.
-- Refused: some key's is no, and it went out. Failed: nothing went out, or a beginning of it
abbrev pub EndsClosedHalls : RunAsked → List ClosedHall → DeviceStates → Status → Type 0
EndsClosedHalls asked halls out status.Good =
    IsFirstNoOfHalls halls None × OfShownText asked halls (Receives out)
EndsClosedHalls asked halls out status.Refused = ((refused : RefusedKey)
    × IsFirstNoOfHalls halls (Some refused)) × OfShownText asked halls (Receives out)
EndsClosedHalls asked halls out status.Usage = ⊥
EndsClosedHalls asked halls out status.Format = ⊥
EndsClosedHalls asked halls out status.Undecided = ⊥
EndsClosedHalls asked halls out status.Failed =
    ReceivesNothing out ⊎ OfShownText asked halls (ReceivesPrefix out)

module _ (asked : RunAsked) (out errors : DeviceStates) where
  -- the load was run to its end, and its store closed; its halls end as the status says, and the
  -- lines of the refused callers went out, in order of name, and then those of that end
  pub record EndsClosed (s : Status) : Type 0 where
    pub loaded : LoadOutcome
    pub run : IsLoaded asked.load loaded
    pub closed : Closed
    pub is : loaded.closed ≡ Ok closed
    pub ends : EndsClosedHalls asked closed.halls.items out s
    pub lines : List (List ℕ)
    pub ending : AreEnding closed.halls.items out s lines
    pub said : ReceivesLines errors (refusal_lines loaded.refusals.items ++ lines)

  -- the load was run to its end, and its store not closed; the lines of the refused callers went
  -- out, and then why
  pub record IsUnclosed (error : CloseError) : Type 0 where
    pub loaded : LoadOutcome
    pub run : IsLoaded asked.load loaded
    pub refused : loaded.closed ≡ Err error
    pub quiet : ReceivesNothing out
    pub said : ReceivesLines errors
        (refusal_lines loaded.refusals.items ++ close_line error ∷ [])

  -- the load wasn't run to its end, and the line that says why went out
  pub record IsUnloaded : Type 0 where
    pub quiet : ReceivesNothing out
    pub error : LoadError
    pub said : ReceivesOrFails errors (load_line error)

  -- what the status of a run says: its store was closed, and it ends so; or its store wasn't
  -- closed, or its load not run to its end, and nothing went out
  abbrev pub EndsRun : Status → Type 0
  EndsRun status.Good = EndsClosed status.Good
  EndsRun status.Refused = EndsClosed status.Refused ⊎ IsUnclosed close.SeatMismatch
  EndsRun status.Usage = ⊥
  EndsRun status.Format = ⊥
  EndsRun status.Undecided = ⊥
  EndsRun status.Failed = EndsClosed status.Failed ⊎ IsUnclosed close.Memory ⊎ IsUnloaded
