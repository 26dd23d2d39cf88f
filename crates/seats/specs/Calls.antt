-- What the turns of a call do to its client's log.
use Rattle.std.specs.Prelude.{ℕ, ◌≡◌, List}
use Rattle.tag.specs.declared.actions.Action.{Action}
use Rattle.tag.specs.declared.actions.Returned.{Returned}
use Rattle.tag.specs.declared.numbers.OpId.{OpId}
use Rattle.recorder.specs.declared.row.Row.TheVariants.{Invoke, Respond}
use Rattle.hall_lock.specs.Turns.{AddsRow, AreRecorded, ClientView}
use Rattle.world_steps.specs.Lasting.{Grows}
use Rattle.recorder.specs.declared.log_entry.Entry.{Entry}
use Rattle.recorder.specs.Logs.{IsLog}

-- rows came, but none that begins or ends a call of the client: its log is still the log of its
-- calls, and the rows are still the record of a world that steps reach
pub record KeepsLog (old new : ClientView) : Type 0 where
  pub client : new.client ≡ old.client
  pub grown : Grows old.rows new.rows
  pub recorded : AreRecorded old.rows → AreRecorded new.rows
  pub log : (log : List Entry) → IsLog old.rows old.client log → IsLog new.rows new.client log

-- the client's call began, at that place
pub record BeginsCall (old : ClientView) (key : List ℕ) (action : Action) (op : OpId) (place : ℕ)
    (new : ClientView) : Type 0 where
  pub added : AddsRow old (Invoke op old.client key action) place new
  pub recorded : AreRecorded new.rows

-- after turns that kept the client's log, its call was answered, at that place
pub record EndsCall (old : ClientView) (op : OpId) (returned : Returned) (place : ℕ)
    (new : ClientView) : Type 0 where
  pub middle : ClientView
  pub kept : KeepsLog old middle
  pub answered : AddsRow middle (Respond op returned) place new
  pub recorded : AreRecorded new.rows
