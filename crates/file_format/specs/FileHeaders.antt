-- The header of a history file of either version: version 2 tells how many halls there are, and the
-- store's quorums.
use Rattle.std.specs.Prelude.{ℕ, ◌+◌, ◌&&◌, ◌==◌, List, Bool, Option, Some, None, Result, Ok, Err}
use Rattle.std.specs.Prelude.{codes, bytes_eq, length, sum, nat_le, nat_lt, if◌then◌else◌}
use Rattle.std.specs.List.{list_all}
use Rattle.serde_json.specs.Data.{Data}
use Rattle.tag.specs.Limits.{replica_limit}
use Rattle.quorum.specs.Quorums.{Quorums}
use Rattle.file_format.specs.declared.fault.LineFault.{LineFault}
use Rattle.file_format.specs.declared.fault.LineFault.TheVariants.{NoHeader, Version}
use Rattle.file_format.specs.declared.file_header.FileHeader.{FileHeader}
use Rattle.file_format.specs.declared.file_header.FileHeader.TheVariants.{Version1, Version2}
use Rattle.counted_devices.specs.Answers.{◌>>=◌}
use Rattle.file_format.specs.Members.{text_at, number_at, numbers_at, needed_member}
use Rattle.file_format.specs.Members.{in_range}

-- how many halls there are
abbrev pub halls_in : FileHeader → ℕ
halls_in Version1 = 1
halls_in (Version2 halls quorums) = halls

-- the quorums of the store, where they are told
abbrev pub quorums_in : FileHeader → Option Quorums
quorums_in Version1 = None
quorums_in (Version2 halls quorums) = Some quorums

-- the header of so many halls: of version 2 where the quorums are known
abbrev pub header_with : ℕ → Option Quorums → FileHeader
header_with halls None = Version1
header_with halls (Some quorums) = Version2 halls quorums

-- what a row of that hall has as its member `hall`: in version 1 it has none
abbrev pub written_hall : FileHeader → ℕ → Option ℕ
written_hall Version1 hall = None
written_hall (Version2 halls quorums) hall = Some hall

-- 1 to 15 replicas, of 1 to 9 votes each
abbrev pub are_votes : List ℕ → Bool
are_votes votes = nat_le 1 (length votes) && nat_le (length votes) replica_limit
    && list_all (λ v. nat_le 1 v && nat_le v 9) votes

-- so many votes make a quorum that can be reached
abbrev pub is_reached : List ℕ → ℕ → Bool
is_reached votes enough = nat_le 1 enough && nat_le enough (sum votes)

-- the quorums are inside the rules
abbrev pub are_quorums : List ℕ → ℕ → ℕ → Bool
are_quorums votes ask put = are_votes votes && is_reached votes ask && is_reached votes put
    && nat_lt (sum votes) (ask + put)

-- those quorums, or the fault that they are outside the rules
abbrev pub quorums_of : List ℕ → ℕ → ℕ → Result Quorums LineFault
quorums_of votes ask put =
    in_range (are_quorums votes ask put) (record { votes = votes; ask = ask; put = put })

-- so many halls, or the fault that they are not 1 to 64
abbrev pub count_of : ℕ → Result ℕ LineFault
count_of halls = in_range (nat_le 1 halls && nat_le halls 64) halls

-- the halls and the quorums that a header of version 2 tells: first its members and their kinds,
-- then their ranges
unfoldable pub told_in : Data → Result FileHeader LineFault
told_in d = do
  ask ← needed_member (number_at (codes "ask") d)
  halls ← needed_member (number_at (codes "halls") d)
  put ← needed_member (number_at (codes "put") d)
  votes ← needed_member (numbers_at (codes "votes") d)
  count ← count_of halls
  quorums ← quorums_of votes ask put
  Ok (Version2 count quorums)

-- the header of that version that the value says, or its fault
abbrev pub version_of : ℕ → Data → Result FileHeader LineFault
version_of version d =
    if version == 1 then Ok Version1 else if version == 2 then told_in d else Err Version

-- a history file of version 1 or 2
abbrev pub file_header_of : Option (List ℕ) → Option ℕ → Data → Result FileHeader LineFault
file_header_of None version d = Err NoHeader
file_header_of (Some abd) None d =
    if bytes_eq abd (codes "history") then Err Version else Err NoHeader
file_header_of (Some abd) (Some version) d =
    if bytes_eq abd (codes "history") then version_of version d else Err NoHeader

-- the value is the header of a history file, or its fault
unfoldable pub file_header_in : Data → Result FileHeader LineFault
file_header_in d = file_header_of (text_at (codes "abd") d) (number_at (codes "version") d) d
