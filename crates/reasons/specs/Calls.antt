-- The calls that a reason names.
use Rattle.std.specs.Prelude.{ℕ, ◌≡◌, ◌≢◌, List, Option, Some, None, Contains}
use Rattle.tag.specs.declared.actions.Action.{Action}
use Rattle.tag.specs.declared.actions.Action.TheVariants.{Read, Write}
use Rattle.tag.specs.declared.actions.Returned.TheVariants.{Value}
use Rattle.tag.specs.declared.numbers.OpId.{OpId}
use Rattle.recorder.specs.declared.part.Call.{Call}
use Rattle.recorder.specs.declared.part.Response.{Response}
use Rattle.recorder.specs.Sound.{IsRead}

-- the call is the part's of that number
abbrev pub IsCallOf : List Call → OpId → Call → Type 0
IsCallOf part op call = Contains part call × (call.op ≡ op)

-- the value that an action writes; a read writes none
abbrev pub written_by : Action → Option (List ℕ)
written_by Read = None
written_by (Write value) = Some value

-- the call is a read with a response, and doesn't answer that value
abbrev pub AnswersNot : Call → Option (List ℕ) → Type 0
AnswersNot call value = IsRead call × ((response : Response) × (call.response ≡ Some response)
    × (response.returned ≢ Value value))
