-- What a monitor keeps of the rows that it has taken.
use Rattle.std.specs.Prelude.{ℕ, ◌≡◌, ◌≢◌, ◌≤◌, ◌+◌, ◌^◌, List, [], ◌∷◌, ◌++◌, Some, Result, Ok}
use Rattle.std.specs.Prelude.{Err, ⊤}
use Rattle.std.specs.Prelude.{length, slice_get}
use Rattle.tag.specs.declared.actions.Action.{Action}
use Rattle.tag.specs.declared.numbers.OpId.{OpId}
use Rattle.recorder.specs.declared.row.Row.{Row}
use Rattle.recorder.specs.declared.row.Row.TheVariants.{Invoke}
use Rattle.recorder.specs.Histories.{call_count, IsWellFormed, MayFollow}
use Rattle.open_calls.specs.declared.open_call.OpenCall.{OpenCall}
use Rattle.open_calls.specs.declared.refusal.CallRefusal.{CallRefusal}
use Rattle.open_calls.specs.declared.refusal.CallRefusal.TheVariants.{Memory}
use Rattle.open_calls.specs.Open.{Open, call_at}
use Rattle.open_calls.specs.Rows.{IsRefusedAfter, KeepsOpen}
use Rattle.monitored_key.specs.Maps.{entry_at}
use Rattle.record_monitor.specs.declared.taken.Begun.{Begun}
use Rattle.record_monitor.specs.declared.taken.Taken.{Taken}
use Rattle.record_monitor.specs.Waiting.{AreGivenUp, AreRecent, AreWaiting}
use Rattle.record_monitor.specs.Watched.{AreWatched}

-- the call began at the place that is kept, by the client that is, and its key has the number that
-- is
pub record IsBegun (rows : List Row) (keys : List (List ℕ)) (op : OpId) (begun : Begun) : Type 0
  where
    pub client : ℕ
    pub key : List ℕ
    pub action : Action
    pub begins : slice_get rows begun.place ≡ Some (Invoke op client key action)
    pub whose : client ≡ begun.client
    pub key_is : slice_get keys begun.key ≡ Some key

-- so it is of each pending call
abbrev pub AreBegun : List Row → List (List ℕ) → Open Begun → Type 0
AreBegun rows keys calls = (op : OpId) (call : OpenCall Begun) → call_at calls op.0 ≡ Some call
    → IsBegun rows keys op call.payload

-- what is known of the keys is that of the rows
pub record KnowsKeys (rows : List Row) (gone : List ℕ) (taken : Taken) : Type 0 where
  pub given_up : AreGivenUp taken.give_up rows gone
  pub keys : AreWatched taken.give_up rows gone taken.keys
  pub waiting : AreWaiting rows taken.keys.numbers gone (entry_at taken.reads.entries)

-- and each read that was pending for so many of the rows up to that place is given up
pub record KeepsKeys (place : ℕ) (rows : List Row) (gone : List ℕ) (taken : Taken) : Type 0 where
  pub knows : KnowsKeys rows gone taken
  pub recent : AreRecent taken.give_up place (entry_at taken.reads.entries)
  pub at : taken.place ≡ place

-- the same, but for one that was pending for just so many rows up to the place
pub record HasMoved (place : ℕ) (rows : List Row) (gone : List ℕ) (taken : Taken) : Type 0 where
  pub knows : KnowsKeys rows gone taken
  pub recent : AreRecent (taken.give_up + 1) place (entry_at taken.reads.entries)
  pub at : taken.place ≡ place

-- what is kept is that of the rows
pub record KeepsRows (rows : List Row) (taken : Taken) : Type 0 where
  pub gone : List ℕ
  pub keys : KeepsKeys (length rows) rows gone taken
  pub opens : KeepsOpen rows taken.calls
  pub begun : AreBegun rows taken.keys.numbers taken.calls
  pub few : call_count rows ≤ 2 ^ 32

-- it is that of some rows
pub record KeepsSome (taken : Taken) : Type 0 where
  pub rows : List Row
  pub formed : IsWellFormed rows
  pub keeps : KeepsRows rows taken

-- what is known of the keys is that of some rows, which the row may follow
pub record MayTake (taken : Taken) (row : Row) : Type 0 where
  pub rows : List Row
  pub formed : IsWellFormed rows
  pub gone : List ℕ
  pub keeps : KeepsKeys (length rows) rows gone taken
  pub may : MayFollow rows row

-- the row is taken after those rows, and a read may be pending for as many rows as before; or it is
-- refused, and only for want of memory anything changed
abbrev pub TakesNext : List Row → Taken → Row → Result ⊤ CallRefusal → Taken → Type 0
TakesNext rows old row (Ok done) new = MayFollow rows row × KeepsRows (rows ++ row ∷ []) new
    × (new.give_up ≡ old.give_up)
TakesNext rows old row (Err refusal) new =
    IsRefusedAfter rows row refusal × (refusal ≢ Memory → new ≡ old)
