-- The asking phase (Lynch and Shvartsman 1997).
use Rattle.std.specs.Prelude.{ℕ, ◌<◌, Bool, true, false, not, ◌&&◌, ◌||◌, if◌then◌else◌, nat_lt}
use Rattle.std.specs.Prelude.{nat_eq, List, length, Option}
use Rattle.std.specs.Ordering.{is_lt, is_eq}
use Rattle.std.specs.FinSet as finite
use Rattle.tag.specs.Limits.{call_limit}
use Rattle.tag.specs.Tags.{Tag, least, tag_cmp}
use Rattle.tag.specs.declared.numbers.OpId.{OpId}
use Rattle.tag.specs.declared.actions.Action.{Action}
use Rattle.tag.specs.declared.actions.Action.TheVariants.{Read, Write}
use Rattle.quorum.specs.Sets.{Replicas}
use Rattle.quorum.specs.Quorums.{is_put_quorum}
use Rattle.replica.specs.Pairs.{no_pair}
use Rattle.replica.specs.declared.pairs.Pair.{Pair}
use Rattle.replica.specs.declared.requests.Request.{Request}
use Rattle.replica.specs.declared.requests.Request.TheVariants.{Query}
use Rattle.client_phases.specs.declared.rules.ReadMode.{ReadMode}
use Rattle.client_phases.specs.declared.rules.ReadMode.TheVariants.{Short}
use Rattle.client_phases.specs.declared.rules.Rules.{Rules}
use Rattle.client_phases.specs.declared.asking.Tally.{Tally}
use Rattle.client_phases.specs.Calls.{Call}

-- an asking: its call, the replicas that it counted, the pair of the greatest tag that they
-- answered, and the least tag that they answered
pub record Asking : Type 0 where
  pub call : Call
  pub counted : Replicas
  pub best : Pair
  pub least : Tag

-- a reply counts if it names the call, and comes from a replica that isn't counted yet and whose
-- number is below the count of replicas
abbrev pub counts : Rules → Call → Replicas → OpId → ℕ → Bool
counts rules call counted op replica =
    nat_eq op.0 call.op.0 && (not (finite.contains counted replica)
    && nat_lt replica (length rules.quorums.votes))

-- what an asking asks of replicas
abbrev pub query_of : Asking → Request
query_of asking = Query asking.call.op asking.call.key

-- an asking begins with nobody counted
abbrev pub opening_of : Call → Asking
opening_of call = record { call = call; counted = finite.empty; best = no_pair; least = least }

-- the pair of the greater tag; the first if the tags are equal
abbrev pub newer : Pair → Pair → Pair
newer best pair = if is_lt (tag_cmp best.tag pair.tag) then pair else best

-- the least tag among the answers, with that tag
abbrev pub least_with : Asking → Tag → Tag
least_with asking tag = if nat_eq (finite.len asking.counted) 0 || is_lt (tag_cmp tag asking.least)
    then tag else asking.least

-- the asking with a further pair counted
abbrev pub asking_with : Asking → ℕ → Pair → Asking
asking_with asking replica pair = record {
  call = asking.call;
  counted = finite.insert asking.counted replica;
  best = newer asking.best pair;
  least = least_with asking pair.tag;
}

-- the call is a read, and its client reads short
abbrev is_short_read : ReadMode → Action → Bool
is_short_read Short Read = true
is_short_read reads action = false

-- a short read's asking is enough: what it counted carried one tag, and came from a put quorum
abbrev pub is_agreed : Rules → Asking → Bool
is_agreed rules asking =
    is_short_read rules.reads asking.call.action
    && (is_eq (tag_cmp asking.least asking.best.tag)
    && is_put_quorum rules.quorums asking.counted)

-- a tag that a write may find: it leaves room for a greater number
abbrev pub LeavesRoom : Action → Tag → Type 0
LeavesRoom Read tag = Unit {0}
LeavesRoom (Write value) tag = tag.number < call_limit

-- an asking by its call, its tally and the value of the greatest tag
abbrev pub asking_from : Call → Tally → Option (List ℕ) → Asking
asking_from call tally found = record {
  call = call;
  counted = tally.counted;
  best = record { tag = tally.best; value = found };
  least = tally.least;
}
