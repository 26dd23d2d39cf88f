-- The maps of kept writes.
use Rattle.std.specs.Prelude.{ℕ, List, Option}
use Rattle.kept_writers.specs.Written.{Written}
use Rattle.monitored_key.specs.declared.indexed.Indexed.{Indexed}
use Rattle.monitored_key.specs.Indexes.{AreIndexed}
use Rattle.key_monitor.specs.KeptWrites.{KeptWrite}
use Rattle.monitored_key.specs.Maps.{entry_at, text_at}

-- the write of that number
abbrev pub write_in : Indexed → ℕ → Option KeptWrite
write_in maps number = entry_at maps.by_number.entries number

-- the writes of the value
abbrev pub values_in : Indexed → List ℕ → Option Written
values_in maps value = text_at maps.by_value value

-- the number of the write whose family ended first there
abbrev pub owner_in : Indexed → ℕ → Option ℕ
owner_in maps end = entry_at maps.by_end.entries end

-- its maps say the same
abbrev pub AreMapped : Indexed → Type 0
AreMapped maps = AreIndexed (write_in maps) (values_in maps) (owner_in maps)
