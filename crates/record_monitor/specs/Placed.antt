-- Calls by the places where they began.
use Rattle.std.specs.Prelude.{ℕ, ◌≡◌, ◌≢◌, Bool, false, cond, nat_eq, Option, Some, None, IsSome}
use Rattle.std.specs.Option.{option_map}
use Rattle.tag.specs.declared.numbers.OpId.{OpId}
use Rattle.monitored_key.specs.Maps.{entry_at}
use Rattle.record_monitor.specs.declared.placed.Placed.{Placed}
use Rattle.record_monitor.specs.declared.told.ToldCall.{ToldCall}
use Rattle.record_monitor.specs.declared.told.ToldNote.{ToldNote}

-- whether there is a call, and it began there
abbrev pub has_begun : Option ToldCall → ℕ → Bool
has_begun None place = false
has_begun (Some call) place = nat_eq call.begun place

-- the call, if it began there, or else another
abbrev pub call_or : Option ToldCall → ℕ → Option ToldCall → Option ToldCall
call_or call place other = cond (has_begun call place) call other

-- the call that began there, if it is there
abbrev pub call_in : Placed → ℕ → Option ToldCall
call_in calls place = call_or calls.first place (entry_at calls.more.entries place)

-- the call with the note, if it has that number
abbrev pub noted_as : OpId → ToldNote → ToldCall → ToldCall
noted_as op note call = cond (nat_eq call.op.0 op.0) (record call { noted = Some note }) call

-- the call there has the note, if it has that number, and the others are as they were
pub record NotesAt (old : ℕ → Option ToldCall) (place : ℕ) (op : OpId) (note : ToldNote)
    (new : ℕ → Option ToldCall) : Type 0 where
  pub here : new place ≡ option_map (noted_as op note) (old place)
  pub others : (at : ℕ) → at ≢ place → new at ≡ old at

-- where the one has a call, the other has one
abbrev pub StaysIn : Placed → Placed → Type 0
StaysIn old new = (place : ℕ) → IsSome (call_in old place) → IsSome (call_in new place)

-- so it is at each place but one
abbrev pub StaysBut : ℕ → Placed → Placed → Type 0
StaysBut one old new =
    (place : ℕ) → place ≢ one → IsSome (call_in old place) → IsSome (call_in new place)
