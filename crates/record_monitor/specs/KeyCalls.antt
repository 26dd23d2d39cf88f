-- What is kept of the calls of a key, for what is told.
use Rattle.std.specs.Prelude.{ℕ, ◌≡◌, ◌⊎◌, ◌||◌, ◌==◌, Bool, false, List, Option, Some, None}
use Rattle.std.specs.Prelude.{IfSome, IsSome, IsTrue, All}
use Rattle.std.specs.BTreeMap.{BTreeMap}
use Rattle.std.specs.BTreeSet.{BTreeSet, contains}
use Rattle.std.specs.List.{list_any}
use Rattle.std.specs.Ordering.{nat_cmp}
use Rattle.recorder.specs.declared.row.Row.{Row}
use Rattle.monitored_key.specs.declared.kept_zone.KeptZone.{KeptZone}
use Rattle.monitored_key.specs.Maps.{entry_at}
use Rattle.record_monitor.specs.declared.key_calls.KeyCalls.{KeyCalls}
use Rattle.record_monitor.specs.declared.key_calls.ReadNote.{ReadNote}
use Rattle.record_monitor.specs.declared.placed.Placed.{Placed}
use Rattle.record_monitor.specs.declared.told.ToldCall.{ToldCall}
use Rattle.record_monitor.specs.Placed.{call_in}
use Rattle.record_monitor.specs.Told.{HasNoteAt, IsToldCall}

-- whether the call began there
abbrev pub is_begun_at : ℕ → ToldCall → Bool
is_begun_at place call = call.begun == place

-- whether a call with that answer was answered there
abbrev pub is_there : ℕ → Option ℕ → Bool
is_there place None = false
is_there place (Some end) = end == place

-- whether the call was answered there
abbrev pub is_ended_at : ℕ → ToldCall → Bool
is_ended_at place call = is_there place call.answered

-- a write that is pending or a call that was answered began there, and is kept
abbrev pub HasBegun : KeyCalls → ℕ → Type 0
HasBegun calls begin = IsTrue (list_any (is_begun_at begin) calls.answered.items)
    ⊎ IsSome (call_in calls.writes begin)

-- a call that was answered there is kept
abbrev pub HasAnswered : KeyCalls → ℕ → Type 0
HasAnswered calls end = IsTrue (list_any (is_ended_at end) calls.answered.items)

-- what was kept of begun and of answered calls is kept
pub record KeepsCalls (old new : KeyCalls) : Type 0 where
  pub begun : (begin : ℕ) → HasBegun old begin → HasBegun new begin
  pub ended : (end : ℕ) → HasAnswered old end → HasAnswered new end

-- and so is the call that first showed a value
pub record KeepsAll (old new : KeyCalls) : Type 0 where
  pub calls : KeepsCalls old new
  pub first : new.first ≡ old.first

-- what was kept of the calls of a family with that zone is kept
pub record GoesOver (old new : KeyCalls) (zone : KeptZone) : Type 0 where
  pub write : HasBegun old zone.begin → HasBegun new zone.begin
  pub last : HasBegun old zone.last → HasBegun new zone.last
  pub end : HasAnswered old zone.end → HasAnswered new zone.end

-- whether the place is one of these
abbrev pub is_one_of : BTreeSet ℕ → ℕ → Bool
is_one_of places place = contains nat_cmp places place

-- whether a call with that answer was answered at one of the places
abbrev pub is_in : BTreeSet ℕ → Option ℕ → Bool
is_in places None = false
is_in places (Some end) = is_one_of places end

-- whether the call began or was answered at one of the places
abbrev pub has_place : BTreeSet ℕ → ToldCall → Bool
has_place places call = is_one_of places call.begun || is_in places call.answered

-- the places of the zone are among these
pub record AreAmong (places : BTreeSet ℕ) (zone : KeptZone) : Type 0 where
  pub write : IsTrue (is_one_of places zone.begin)
  pub last : IsTrue (is_one_of places zone.last)
  pub end : IsTrue (is_one_of places zone.end)

-- each of the notes is one of the rows
abbrev pub AreNotes : List Row → BTreeMap ℕ ReadNote → Type 0
AreNotes rows notes = (place : ℕ) (noted : ReadNote) → entry_at notes.entries place ≡ Some noted
    → HasNoteAt rows noted.op noted.note

module _ (rows : List Row) (key : List ℕ) where
  -- each of the calls is one of the rows, and began where it stands
  abbrev pub AreToldAt : Placed → Type 0
  AreToldAt calls = (place : ℕ) (call : ToldCall) → call_in calls place ≡ Some call
      → IsToldCall rows key call × (call.begun ≡ place)

  -- all that is kept is of the rows
  pub record KnowsCalls (calls : KeyCalls) : Type 0 where
    pub writes : AreToldAt calls.writes
    pub notes : AreNotes rows calls.notes
    pub answered : All (IsToldCall rows key) calls.answered.items
    pub first : IfSome calls.first (λ shown. IsToldCall rows key shown.call)
