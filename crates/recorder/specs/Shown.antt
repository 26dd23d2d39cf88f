-- Actions and answers by the values in them.
use Rattle.std.specs.Prelude.{ℕ, List, Option, Some, None}
use Rattle.tag.specs.declared.actions.Action.{Action}
use Rattle.tag.specs.declared.actions.Action.TheVariants.{Read, Write}
use Rattle.tag.specs.declared.actions.Returned.{Returned}
use Rattle.tag.specs.declared.actions.Returned.TheVariants as returned

-- the action that writes that value, or reads
abbrev pub action_with : Option (List ℕ) → Action
action_with None = Read
action_with (Some value) = Write value

-- the value that an action writes
abbrev pub written_of : Action → Option (List ℕ)
written_of Read = None
written_of (Write value) = Some value

-- the answer of a read with that value, if any, or of a write
abbrev pub returned_with : Option (Option (List ℕ)) → Returned
returned_with None = returned.Written
returned_with (Some value) = returned.Value value

-- what a read answers
abbrev pub answered_of : Returned → Option (Option (List ℕ))
answered_of returned.Written = None
answered_of (returned.Value value) = Some value

-- the value that is answered, if there is one
abbrev pub answer_of : Returned → Option (List ℕ)
answer_of returned.Written = None
answer_of (returned.Value value) = value
