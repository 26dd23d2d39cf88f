-- What the state of a call says of its key and its value.
use Rattle.std.specs.Prelude.{ℕ, ◌≡◌, List, Some, slice_get}
use Rattle.std.specs.Option.{ForSome}
use Rattle.tag.specs.declared.actions.Action.{Action}
use Rattle.tag.specs.declared.actions.Returned.{Returned}
use Rattle.tag.specs.declared.numbers.OpId.{OpId}
use Rattle.recorder.specs.declared.row.Row.TheVariants.{Invoke, Respond}
use Rattle.recorder.specs.declared.record.CallState.{CallState}
use Rattle.recorder.specs.States.{action_by, returned_by}
use Rattle.recorder.specs.Tables.{Table, BeginsOn}
use Rattle.recorder.specs.Texts.{IsValueAt, value_in}

-- the state has the number of the call's key, and where the value stands that it wrote or answered
pub record IsKeptCall (table : Table) (op : OpId) (state : CallState) : Type 0 where
  pub key : BeginsOn table state.invoked state.key
  pub there : ForSome state.value (IsValueAt table.texts)
  pub asks : (client : ℕ) (key : List ℕ) (action : Action) → slice_get table.rows state.invoked
      ≡ Some (Invoke op client key action)
      → action ≡ action_by state.is_write (value_in table.texts state.value)
  pub answers : (place : ℕ) (returned : Returned) → slice_get table.rows place
      ≡ Some (Respond op returned)
      → returned ≡ returned_by state.is_write (value_in table.texts state.value)

-- each of the states has them
abbrev pub AreKept : Table → List CallState → Type 0
AreKept table states = (op : OpId) (state : CallState) → slice_get states op.0 ≡ Some state
    → IsKeptCall table op state
