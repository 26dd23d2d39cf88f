-- A client's calls.
use Rattle.std.specs.Prelude.{ℕ, List, Option, Some}
use Rattle.tag.specs.Tags.{next_of}
use Rattle.tag.specs.declared.actions.Action.{Action}
use Rattle.tag.specs.declared.actions.Action.TheVariants.{Read, Write}
use Rattle.tag.specs.declared.actions.Returned.{Returned}
use Rattle.tag.specs.declared.actions.Returned.TheVariants.{Value, Written}
use Rattle.replica.specs.declared.pairs.Pair.{Pair}
use Rattle.replica.specs.declared.requests.Request.{Request}
use Rattle.replica.specs.declared.requests.Request.TheVariants.{Put}
-- a call: its number, its key and what it asks
pub use Rattle.client_phases.specs.declared.calls.Call.{Call}

-- a call with the pair that it puts and answers from
pub record Chosen : Type 0 where
  pub call : Call
  pub pair : Pair

-- a read puts the value that it found, a write its own
abbrev pub value_to_put : Action → Option (List ℕ) → Option (List ℕ)
value_to_put Read found = found
value_to_put (Write value) found = Some value

-- a read puts the pair that it found, a write its own value with the first of its tags that is
-- above the found one
abbrev pub pair_to_put : ℕ → Action → Pair → Pair
pair_to_put name Read found = found
pair_to_put name (Write value) found = record { tag = next_of found.tag name; value = Some value }

-- what is asked of replicas while a pair is put
abbrev pub put_of : Chosen → Request
put_of chosen = Put chosen.call.op chosen.call.key chosen.pair.tag chosen.pair.value

-- what an action answers from a pair
abbrev answer_to : Action → Pair → Returned
answer_to Read pair = Value pair.value
answer_to (Write value) pair = Written

-- a read answers the value of the pair, a write that it is done
abbrev pub answer_from : Chosen → Returned
answer_from chosen = answer_to chosen.call.action chosen.pair
