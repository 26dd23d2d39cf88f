-- The kept writes of a key: two in slots, and the others in maps.
use Rattle.std.specs.Prelude.{ℕ, List, Option}
use Rattle.key_monitor.specs.KeptWrites.{KeptWrite}
use Rattle.monitored_key.specs.declared.writes.Writes.{Writes}
use Rattle.monitored_key.specs.Indexed.{AreMapped, owner_in}
use Rattle.monitored_key.specs.Maps.{entry_at}
use Rattle.monitored_key.specs.Slots.{StandsApart, owner_beside, put_before}

-- all but the first slot's
abbrev pub rest_of : Writes → List (ℕ × KeptWrite)
rest_of writes = put_before writes.second writes.more.by_number.entries

-- all, with their numbers
abbrev pub entries_of : Writes → List (ℕ × KeptWrite)
entries_of writes = put_before writes.first (rest_of writes)

-- the write of that number
abbrev pub kept_of : Writes → ℕ → Option KeptWrite
kept_of writes number = entry_at (entries_of writes) number

-- the number of the write of these whose family ended first there
abbrev pub rest_owner : Writes → ℕ → Option ℕ
rest_owner writes end = owner_beside writes.second (owner_in writes.more) end

-- the number of the write of all whose family ended first there
abbrev pub owner_of : Writes → ℕ → Option ℕ
owner_of writes end = owner_beside writes.first (rest_owner writes) end

-- no two writes have one number or one end, and the maps say the same
pub record AreFit (writes : Writes) : Type 0 where
  pub mapped : AreMapped writes.more
  pub second : StandsApart writes.second writes.more.by_number.entries (owner_in writes.more)
  pub first : StandsApart writes.first (rest_of writes) (rest_owner writes)
