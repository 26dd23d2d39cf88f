-- Which members a line has to have, in the order in which the format lists them, and what they have
-- to be.
use Rattle.std.specs.Prelude.{ℕ, ◌+◌, ◌-◌, List, [], ◌∷◌, ◌++◌, Bool, Option, Some, None}
use Rattle.std.specs.Prelude.{◌==◌, ◌&&◌, codes, bytes_eq, nat_le, unwrap_or, if◌then◌else◌}
use Rattle.serde_json.specs.Data.{Data}
use Rattle.file_format.specs.FileHeaders.{are_votes}
use Rattle.file_format.specs.Members.{text_at, number_at, numbers_at}
use Rattle.fault_details.specs.declared.demand.Name.{Name}
use Rattle.fault_details.specs.declared.demand.Name.TheVariants as name
use Rattle.fault_details.specs.declared.demand.Allowed.{Allowed}
use Rattle.fault_details.specs.declared.demand.Allowed.TheVariants as allowed
use Rattle.fault_details.specs.declared.demand.Demand.{Demand}
use Rattle.fault_details.specs.declared.demands.LineKind.{LineKind}
use Rattle.fault_details.specs.declared.demands.LineKind.TheVariants as kind

-- the member of that name has to be that
abbrev pub a : Name → Allowed → Demand
a n what = record { name = n; allowed = what }

-- the member of that name is a number between those two
abbrev pub number : Name → ℕ → ℕ → Demand
number n least most = a n (allowed.Number least most)

-- the number of a call
abbrev pub any_call : Demand
any_call = number name.Call 0 4294967295

-- the text that the member of that name is, if it is one
abbrev pub is_text : List ℕ → List ℕ → Data → Bool
is_text n text d = bytes_eq (unwrap_or (text_at n d) []) text

-- a write has a value
abbrev pub value_demands : Data → List Demand
value_demands d =
    if is_text (codes "do") (codes "write") d then a name.Value allowed.Value ∷ [] else []

-- the row that begins a call
abbrev pub invoke_demands : Data → List Demand
invoke_demands d = any_call ∷ number name.Client 1 65535 ∷ a name.Do allowed.Action
    ∷ a name.Key allowed.Key ∷ value_demands d

-- the row that notes a call
abbrev pub note_demands : List Demand
note_demands = any_call ∷ number name.Number 0 1000000 ∷ number name.Writer 0 65535 ∷ []

-- the row that answers a call
abbrev pub respond_demands : List Demand
respond_demands = any_call ∷ a name.Value allowed.Answer ∷ []

-- the members that the kind of a row asks for
unfoldable pub kind_demands : Data → List Demand
kind_demands d = if is_text (codes "row") (codes "invoke") d then invoke_demands d
    else if is_text (codes "row") (codes "note") d then note_demands
    else if is_text (codes "row") (codes "respond") d then respond_demands else []

-- the hall of a row, where there are so many; none where a file says nothing of halls
abbrev pub hall_demands : Option ℕ → List Demand
hall_demands None = []
hall_demands (Some halls) = number name.Hall 0 (halls - 1) ∷ []

-- the votes of all replicas
abbrev pub together : List ℕ → ℕ
together [] = 0
together (vote ∷ votes) = vote + together votes

-- the same of a header; 0 if it has no votes that may be
abbrev pub vote_sum : Option (List ℕ) → ℕ
vote_sum None = 0
vote_sum (Some votes) = if are_votes votes then together votes else 0

-- what an ask quorum may be, of so many votes; 0 where the votes are out of range
abbrev pub ask_allowed : ℕ → Allowed
ask_allowed all = if all == 0 then allowed.OfVotes else allowed.Number 1 all

-- what a put quorum may be beside that ask quorum: where that is in its range, both together have
-- more votes than all replicas
abbrev pub put_beside : ℕ → ℕ → Allowed
put_beside all ask = if nat_le 1 ask && nat_le ask all
    then allowed.Number (all + 1 - ask) all else allowed.BesideAsk all

-- the same, where an ask quorum is told or none is
abbrev pub put_of : ℕ → Option ℕ → Allowed
put_of all None = allowed.Number 1 all
put_of all (Some ask) = put_beside all ask

-- the same of any votes
abbrev pub put_allowed : ℕ → Option ℕ → Allowed
put_allowed all ask = if all == 0 then allowed.OfVotes else put_of all ask

-- the quorums of a header of version 2, of so many votes
abbrev pub quorum_demands : ℕ → Option ℕ → List Demand
quorum_demands all ask = number name.Halls 1 64 ∷ a name.Votes allowed.Votes
    ∷ a name.Ask (ask_allowed all) ∷ a name.Put (put_allowed all ask) ∷ []

-- the members of a history file's header
unfoldable pub history_demands : Data → List Demand
history_demands d = a name.Abd allowed.History ∷ number name.Version 1 2
    ∷ quorum_demands (vote_sum (numbers_at (codes "votes") d)) (number_at (codes "ask") d)

-- the members that a line of that kind has to have
unfoldable pub needed : LineKind → Data → List Demand
needed kind.HistoryHeader d = history_demands d
needed kind.OrderHeader d = a name.Abd allowed.Orders ∷ number name.Version 1 1 ∷ []
needed (kind.Row halls) d = a name.Row allowed.Row ∷ kind_demands d ++ hall_demands halls
needed kind.Piece d = a name.Key allowed.Key ∷ a name.Order allowed.Calls ∷ []
