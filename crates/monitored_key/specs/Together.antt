-- The zones, the kept writes and the open reads of a key fit each other.
use Rattle.std.specs.Prelude.{ℕ, ◌≡◌, ◌<◌, ◌≤◌, Option, Some, IsSome}
use Rattle.kept_zones.specs.Overwriting.{AreBefore, Known, last_of}
use Rattle.key_monitor.specs.KeptWrites.{KeptWrite}
use Rattle.monitored_key.specs.Indexes.{HaveOwners}

-- each kept write with an end has its zone and each zone its write, all were before the next row,
-- and the next write's number is above those of all
pub record StandTogether (known : Known) (writes : ℕ → Option KeptWrite)
    (owners opens : ℕ → Option ℕ) (next number : ℕ) : Type 0 where
  pub zoned : (n end : ℕ) (kept : KeptWrite) → writes n ≡ Some kept → kept.end ≡ Some end
      → IsSome (last_of known.zones end)
  pub owned : HaveOwners (last_of known.zones) owners
  pub before : AreBefore known.zones next
  pub floor : known.floor ≤ next
  pub begun : (n : ℕ) (kept : KeptWrite) → writes n ≡ Some kept → kept.begin < next
  pub numbered : (n : ℕ) (kept : KeptWrite) → writes n ≡ Some kept → n < number
  pub opened : (begin n : ℕ) → opens begin ≡ Some n → begin < next

-- no zone ended before the floor
abbrev pub AreHigh : Known → Type 0
AreHigh known = (end last : ℕ) → last_of known.zones end ≡ Some last → known.floor ≤ end
