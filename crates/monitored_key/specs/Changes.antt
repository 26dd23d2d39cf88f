-- What a row changes of what is held, whatever calls it is of.
use Rattle.std.specs.Prelude.{ℕ, ◌≡◌, ◌+◌, List, [], Option, Some, None, false}
use Rattle.key_monitor.specs.KeptWrites.{HasKept, KeptWrite}
use Rattle.key_monitor.specs.Pending.{HasOpen, LacksOpen}
use Rattle.key_monitor.specs.Shown.{first_show}
use Rattle.monitored_key.specs.declared.judged.Judged.{Judged}
use Rattle.monitored_key.specs.declared.judged.Judged.TheVariants.{Passes, Undecided, Refused}
use Rattle.monitored_key.specs.Held.{Held, open_at, write_at}

-- nothing is held
abbrev pub nothing_held : Held
nothing_held = record {
  known = record { zones = []; floor = 0 };
  writes = [];
  opens = [];
  first = None;
  next = 0;
  number = 0;
  is_lost = false;
}

-- a read more is open, and nothing else changed
pub record HasReadBegun (old : Held) (number place : ℕ) (new : Held) : Type 0 where
  pub opens : HasOpen (open_at old) place number (open_at new)
  pub known : new.known ≡ old.known
  pub writes : new.writes ≡ old.writes
  pub first : new.first ≡ old.first
  pub next : new.next ≡ place + 1
  pub number_is : new.number ≡ old.number

-- a write more is kept, without an end, and nothing else changed
pub record HasWriteBegun (old : Held) (number : ℕ) (value : List ℕ) (place : ℕ) (new : Held) :
    Type 0 where
  pub writes : HasKept (write_at old) number
      (record { value = value; begin = place; end = None }) (write_at new)
  pub known : new.known ≡ old.known
  pub opens : new.opens ≡ old.opens
  pub first : new.first ≡ old.first
  pub next : new.next ≡ place + 1
  pub number_is : new.number ≡ number + 1

-- each kept write was kept: its value and its begin are the same
abbrev pub AreStillKept : (ℕ → Option KeptWrite) → (ℕ → Option KeptWrite) → Type 0
AreStillKept old new = (number : ℕ) (kept : KeptWrite) → new number ≡ Some kept
    → (was : KeptWrite) × (old number ≡ Some was) × (kept.value ≡ was.value)
    × (kept.begin ≡ was.begin)

-- a write's answer opens and closes no read
pub record HasWriteEnded (old : Held) (place : ℕ) (new : Held) : Type 0 where
  pub writes : AreStillKept (write_at old) (write_at new)
  pub opens : new.opens ≡ old.opens
  pub first : new.first ≡ first_show old.first place
  pub next : new.next ≡ place + 1
  pub number_is : new.number ≡ old.number

-- where a value was first shown, after a read's answer
abbrev pub first_after : Option ℕ → Option (List ℕ) → ℕ → Option ℕ
first_after first None place = first
first_after first (Some value) place = first_show first place

-- the read that began there is open no more
pub record HasReadEnded (old : Held) (begin : ℕ) (value : Option (List ℕ)) (place : ℕ)
    (new : Held) : Type 0 where
  pub writes : AreStillKept (write_at old) (write_at new)
  pub opens : LacksOpen (open_at old) begin (open_at new)
  pub first : new.first ≡ first_after old.first value place
  pub next : new.next ≡ place + 1
  pub number_is : new.number ≡ old.number

-- a refused answer changes nothing, another one ends the read
abbrev pub ChangesBy : Held → ℕ → Option (List ℕ) → ℕ → Judged → Held → Type 0
ChangesBy old begin value place Passes new = HasReadEnded old begin value place new
ChangesBy old begin value place (Undecided one two) new = HasReadEnded old begin value place new
ChangesBy old begin value place (Refused refusal) new = new ≡ old

-- a read is given up, and what is then to be forgotten is
pub record HasGivenUp (old : Held) (begin : ℕ) (new : Held) : Type 0 where
  pub writes : AreStillKept (write_at old) (write_at new)
  pub opens : LacksOpen (open_at old) begin (open_at new)
  pub first : new.first ≡ old.first
  pub next : new.next ≡ old.next
  pub number_is : new.number ≡ old.number
