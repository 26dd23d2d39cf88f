-- What contracts see of a monitored key.
use Rattle.std.specs.Prelude.{ℕ, ◌≡◌, Bool, true, List, Option}
use Rattle.kept_zones.specs.Overwriting.{Known}
use Rattle.key_monitor.specs.Follows.{KeyState}
use Rattle.key_monitor.specs.KeptWrites.{KeptWrite}
use Rattle.monitored_key.specs.Maps.{entry_at}

-- the zones; the kept writes, by number; the places at which open reads began, each with the read's
-- number; where a value was first shown; the least place that the next row may have; the least
-- number that the next write may have; whether an allocation was refused, so that nothing is known
pub record Held : Type 0 where
  pub known : Known
  pub writes : List (ℕ × KeptWrite)
  pub opens : List (ℕ × ℕ)
  pub first : Option ℕ
  pub next : ℕ
  pub number : ℕ
  pub is_lost : Bool

-- the kept write of that number
abbrev pub write_at : Held → ℕ → Option KeptWrite
write_at held number = entry_at held.writes number

-- the number of the open read that began there
abbrev pub open_at : Held → ℕ → Option ℕ
open_at held begin = entry_at held.opens begin

-- an allocation was refused: nothing is known any more
abbrev pub IsLost : Held → Type 0
IsLost held = held.is_lost ≡ true

-- what is known of the key
abbrev pub state_of : Held → KeyState
state_of held = record {
  known = held.known;
  writes = write_at held;
  opens = open_at held;
  first = held.first;
}
