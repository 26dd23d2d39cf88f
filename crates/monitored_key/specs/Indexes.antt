-- The kept writes by number, and the maps beside them: by value its writes, by first end its write.
use Rattle.std.specs.Prelude.{ℕ, ◌≡◌, ◌≤◌, List, [], Option, Some, None, IsSome}
use Rattle.kept_writers.specs.Candidates.{begin_at}
use Rattle.kept_writers.specs.Ends.{number_at}
use Rattle.kept_writers.specs.Written.{AreSome, Written}
use Rattle.key_monitor.specs.KeptWrites.{KeptWrite}

-- the writes of a value, or none
abbrev pub written_or_none : Option Written → Written
written_or_none None = record { begins = []; ends = [] }
written_or_none (Some written) = written

module _ (values : List ℕ → Option Written) (value : List ℕ) where
  -- where the value's write of that number began, if no call of its family has ended
  abbrev pub begun_in : ℕ → Option ℕ
  begun_in number = begin_at (written_or_none (values value)).begins number

  -- the number of the value's write whose family ended first there
  abbrev pub ended_in : ℕ → Option ℕ
  ended_in end = number_at (written_or_none (values value)).ends end

-- the three maps say the same, and a value without writes isn't there
pub record AreIndexed (writes : ℕ → Option KeptWrite) (values : List ℕ → Option Written)
    (owners : ℕ → Option ℕ) : Type 0 where
  pub begun : (number : ℕ) (kept : KeptWrite) → writes number ≡ Some kept → kept.end ≡ None
      → begun_in values kept.value number ≡ Some kept.begin
  pub ended : (number end : ℕ) (kept : KeptWrite) → writes number ≡ Some kept
      → kept.end ≡ Some end → ended_in values kept.value end ≡ Some number
  pub owned : (number end : ℕ) (kept : KeptWrite) → writes number ≡ Some kept
      → kept.end ≡ Some end → owners end ≡ Some number
  pub is_begun : (value : List ℕ) (number begin : ℕ) → begun_in values value number ≡ Some begin
      → writes number ≡ Some (record { value = value; begin = begin; end = None })
  pub is_ended : (value : List ℕ) (number end : ℕ) → ended_in values value end ≡ Some number
      → (kept : KeptWrite) × (writes number ≡ Some kept) × (kept.value ≡ value)
      × (kept.end ≡ Some end)
  pub owner : (end number : ℕ) → owners end ≡ Some number → (kept : KeptWrite)
      × (writes number ≡ Some kept) × (kept.end ≡ Some end)
  pub some : (value : List ℕ) (written : Written) → values value ≡ Some written → AreSome written

-- no family ended first before the floor
abbrev pub AreHighEnds : (ℕ → Option ℕ) → ℕ → Type 0
AreHighEnds owners floor = (end number : ℕ) → owners end ≡ Some number → floor ≤ end

-- each zone is that of a kept write's family
abbrev pub HaveOwners : (ℕ → Option ℕ) → (ℕ → Option ℕ) → Type 0
HaveOwners zones owners = (end last : ℕ) → zones end ≡ Some last → IsSome (owners end)

-- each end is that of one kept write, which says so
pub record AreOwned (writes : ℕ → Option KeptWrite) (owners : ℕ → Option ℕ) : Type 0 where
  pub owned : (number end : ℕ) (kept : KeptWrite) → writes number ≡ Some kept
      → kept.end ≡ Some end → owners end ≡ Some number
  pub owner : (end number : ℕ) → owners end ≡ Some number → (kept : KeptWrite)
      × (writes number ≡ Some kept) × (kept.end ≡ Some end)
