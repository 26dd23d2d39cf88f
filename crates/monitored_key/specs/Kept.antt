-- What is kept of a key, and how contracts see it.
use Rattle.std.specs.Prelude.{ℕ, [], false, true, Option, Some, None}
use Rattle.key_monitor.specs.Follows.{KeyState}
use Rattle.monitored_key.specs.declared.kept.Kept.{Kept}
use Rattle.monitored_key.specs.Held.{Held, state_of}
use Rattle.monitored_key.specs.WritesOf.{AreFit, entries_of, kept_of, owner_of}
use Rattle.monitored_key.specs.Maps.{entry_at}
use Rattle.monitored_key.specs.Together.{AreHigh, StandTogether}

-- it is seen as that
abbrev pub seen : Kept → Held
seen kept = record {
  known = kept.zones;
  writes = entries_of kept.writes;
  opens = kept.opens.entries;
  first = kept.first;
  next = kept.next;
  number = kept.number;
  is_lost = false;
}

-- a key is seen as what is kept of it, if that isn't lost
abbrev pub held_of : Option Kept → Held
held_of (Some kept) = seen kept
held_of None = record {
  known = record { zones = []; floor = 0 };
  writes = [];
  opens = [];
  first = None;
  next = 0;
  number = 0;
  is_lost = true;
}

-- what is known of it
abbrev pub key_of : Kept → KeyState
key_of kept = state_of (seen kept)

-- its parts fit each other, if the next row has at least that place
abbrev pub StandBefore : Kept → ℕ → Type 0
StandBefore kept next = StandTogether kept.zones (kept_of kept.writes) (owner_of kept.writes)
    (entry_at kept.opens.entries) next kept.number

-- its parts fit each other, and what is to be forgotten is
pub record IsSound (kept : Kept) : Type 0 where
  pub fit : AreFit kept.writes
  pub together : StandBefore kept kept.next
  pub high : AreHigh kept.zones
