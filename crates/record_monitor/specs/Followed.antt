-- What is known of one key of a record.
use Rattle.std.specs.Prelude.{ℕ, ◌≡◌, ◌<◌, ◌≤◌, ◌+◌, Bool, false, List, Option, Some, None}
use Rattle.std.specs.Prelude.{IfSome, box_value, is_none, length, option_map}
use Rattle.tag.specs.declared.actions.Action.{Action}
use Rattle.recorder.specs.declared.part.Call.{Call}
use Rattle.recorder.specs.declared.row.Row.{Row}
use Rattle.recorder.specs.Histories.{call_count}
use Rattle.value_order.specs.Tables.{ReadsBy}
use Rattle.kept_families.specs.Continued.{AreOpenIn}
use Rattle.kept_families.specs.SoundTables.{AreAllRead}
use Rattle.key_monitor.specs.Follows.{FollowsKept, KeyState}
use Rattle.key_monitor.specs.Judged.{BeginsCall}
use Rattle.monitored_key.specs.Held.{Held, IsLost, state_of}
use Rattle.growing_parts.specs.Nothing.{BeginsFirst}
use Rattle.growing_parts.specs.PartsWithout.{IsPartWithout}
use Rattle.record_monitor.specs.declared.told.Told.{Told}
use Rattle.record_monitor.specs.declared.watched.Watched.{Watched}
use Rattle.record_monitor.specs.KeyCalls.{KnowsCalls}
use Rattle.record_monitor.specs.Told.{IsTold}

module _ (new : KeyState) (op : ℕ) (action : Action) (place : ℕ) where
  -- the new state follows the calls with one more, of that number and action
  abbrev pub FollowsBegun : KeyState → Type 0
  FollowsBegun old = (before after : List Call) (source : ℕ → Option ℕ) (row : ℕ) (call : Call)
      → FollowsKept before source row old → BeginsCall row place before after call
      → AreOpenIn row before after → call.op.0 ≡ op → call.action ≡ action
      → FollowsKept after source place new

  -- or that call alone
  abbrev pub FollowsFirst : Type 0
  FollowsFirst = (after : List Call) (call : Call) → BeginsFirst place after call
      → call.op.0 ≡ op → call.action ≡ action → FollowsKept after (λ _. None) place new

-- what is held follows the part of the key without those reads, by the last row that changed it;
-- without a doubt each completed read of the part has read a write, or answers nothing
pub record IsFollowed (rows : List Row) (key gone : List ℕ) (is_doubtful : Bool) (held : Held) :
    Type 0 where
  pub part : List Call
  pub is : IsPartWithout rows key gone part
  pub source : ℕ → Option ℕ
  pub row : ℕ
  pub next : row + 1 ≡ held.next
  pub early : row < length rows
  pub number : held.number ≤ call_count rows
  pub kept : IsLost held → ⊥
  pub follows : FollowsKept part source row (state_of held)
  pub decided : is_doubtful ≡ false → AreAllRead part (ReadsBy part source)

-- so it is of a key that isn't refused
abbrev pub FollowsState : List Row → List ℕ → List ℕ → Watched → Type 0
FollowsState rows key gone watched =
    IfSome watched.state (IsFollowed rows key gone watched.is_doubtful)

-- what is told of the key's refusal
abbrev pub told_of : Watched → Option Told
told_of watched = option_map box_value watched.told

-- what is kept of the calls of the key, and what is told of them, is so
pub record AreTold (rows : List Row) (key : List ℕ) (watched : Watched) : Type 0 where
  pub calls : KnowsCalls rows key watched.calls
  pub told : IfSome (told_of watched) (IsTold rows key)

-- both
abbrev pub FollowsKey : List Row → List ℕ → List ℕ → Watched → Type 0
FollowsKey rows key gone watched = FollowsState rows key gone watched × AreTold rows key watched

-- a step leaves the calls of the key and what is told of them as they were
pub record KeepsTold (old new : Watched) : Type 0 where
  pub calls : new.calls ≡ old.calls
  pub told : new.told ≡ old.told

-- a step leaves the state of the key, and whether it has a doubt
pub record KeepsState (old new : Watched) : Type 0 where
  pub state : new.state ≡ old.state
  pub doubt : new.is_doubtful ≡ old.is_doubtful

-- the next row of the key may have that place
abbrev pub IsNextAt : Watched → ℕ → Type 0
IsNextAt watched place = IfSome watched.state (λ held. held.next ≤ place)

-- the next write of the key may have that number
abbrev pub IsNumberedAt : Watched → ℕ → Type 0
IsNumberedAt watched number = IfSome watched.state (λ held. held.number ≤ number)

-- it is refused if it was, and no doubt is new
pub record GoesOn (old new : Watched) : Type 0 where
  pub doubt : new.is_doubtful ≡ old.is_doubtful
  pub refused : old.state ≡ None → new.state ≡ None
  pub followed : new.state ≡ None → old.state ≡ None

-- whether the key is refused
abbrev pub is_refused : Watched → Bool
is_refused watched = is_none watched.state

-- whether the key has a doubt
abbrev pub is_doubtful : Watched → Bool
is_doubtful watched = watched.is_doubtful

-- how many families are kept of what follows a key: of a refused key none
abbrev pub kept_in : Option Held → ℕ
kept_in None = 0
kept_in (Some held) = length held.writes

-- how many families of the key are kept
abbrev pub kept_of : Watched → ℕ
kept_of watched = kept_in watched.state

-- what is told of the refusal of a key, if there is one
abbrev pub told_in : Option Watched → Option Told
told_in None = None
told_in (Some watched) = told_of watched
