-- A pass of forgetting.
use Rattle.std.specs.Prelude.{ℕ, ◌≡◌, ◌+◌, List, Option, Some}
use Rattle.recorder.specs.declared.part.Call.{Call}
use Rattle.key_monitor.specs.Follows.{Follows, FollowsKept, KeyState}
use Rattle.key_monitor.specs.KeptWrites.{KeptWrite}
use Rattle.key_monitor.specs.Shown.{first_show}
use Rattle.monitored_key.specs.declared.kept.Kept.{Kept}
use Rattle.monitored_key.specs.declared.judged.Judged.TheVariants.{Passes}
use Rattle.monitored_key.specs.Changes.{HasReadEnded}
use Rattle.monitored_key.specs.Followed.{JudgesRead}
use Rattle.monitored_key.specs.WritesOf.{AreFit, kept_of}
use Rattle.monitored_key.specs.Kept.{StandBefore, key_of, seen}
use Rattle.monitored_key.specs.Maps.{entry_at}

-- it leaves the rest
pub record StaysBut (old new : Kept) : Type 0 where
  pub opens : new.opens ≡ old.opens
  pub first : new.first ≡ old.first
  pub next : new.next ≡ old.next
  pub number : new.number ≡ old.number

-- no write is new
abbrev pub AreFewer : (ℕ → Option KeptWrite) → (ℕ → Option KeptWrite) → Type 0
AreFewer old new = (n : ℕ) (kept : KeptWrite) → new n ≡ Some kept → old n ≡ Some kept

-- after the whole pass nothing forgotten is known
abbrev pub ForgetsAll : KeyState → KeyState → ℕ → Type 0
ForgetsAll old new next = (part : List Call) (source : ℕ → Option ℕ) (row : ℕ) → row + 1 ≡ next
    → Follows part source row old → FollowsKept part source row new

-- in its midst the state follows what it followed
pub record GoesOn (old new : Kept) : Type 0 where
  pub fit : AreFit new.writes
  pub together : StandBefore new new.next
  pub stays : StaysBut old new
  pub fewer : AreFewer (kept_of old.writes) (kept_of new.writes)
  pub follows : (part : List Call) (source : ℕ → Option ℕ) (row : ℕ) → row + 1 ≡ old.next
      → Follows part source row (key_of old) → Follows part source row (key_of new)

-- what is kept, with a value that was shown there at the latest
abbrev pub shown_by : Kept → ℕ → KeyState
shown_by kept place = record {
  known = kept.zones;
  writes = kept_of kept.writes;
  opens = entry_at kept.opens.entries;
  first = first_show kept.first place;
}

-- a row at the place is over: a value was shown, and nothing forgotten is known
pub record EndsRow (old : Kept) (place : ℕ) (new : Kept) : Type 0 where
  pub opens : new.opens ≡ old.opens
  pub first : new.first ≡ first_show old.first place
  pub next : new.next ≡ place + 1
  pub number : new.number ≡ old.number
  pub fewer : AreFewer (kept_of old.writes) (kept_of new.writes)
  pub follows : (part : List Call) (source : ℕ → Option ℕ)
      → Follows part source place (shown_by old place)
      → FollowsKept part source place (key_of new)

-- the read has its answer, and has read the one fresh write of the value
pub record HasRead (old : Kept) (begin : ℕ) (value : List ℕ) (place : ℕ) (new : Kept) : Type 0 where
  pub held : HasReadEnded (seen old) begin (Some value) place (seen new)
  pub follows : JudgesRead (key_of old) (key_of new) begin (Some value) place Passes
