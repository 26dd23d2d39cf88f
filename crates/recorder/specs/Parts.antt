-- Calls of one key, as a history recorded them (Herlihy and Wing 1990, section 2).
use Rattle.std.specs.Prelude.{ℕ, ◌≡◌, ◌<◌, List, Some, None, slice_get, Contains}
use Rattle.recorder.specs.declared.part.Call.{Call}
use Rattle.recorder.specs.declared.part.Response.{Response}

-- a call that has its response
abbrev pub IsCompleted : Call → Type 0
IsCompleted call = (response : Response) × (call.response ≡ Some response)

-- a call without one
abbrev pub IsPending : Call → Type 0
IsPending call = call.response ≡ None

-- call a precedes call b: a has a response, at a place before b's invocation
abbrev pub Precedes : Call → Call → Type 0
Precedes a b = (response : Response) × (a.response ≡ Some response) × (response.place < b.invoked)

-- what every part is: calls in the order of their invocations, which is that of their numbers,
-- each with its response, if any, after its invocation
pub record IsSequence (calls : List Call) : Type 0 where
  pub numbers : (i j : ℕ) (a b : Call) → i < j → slice_get calls i ≡ Some a → slice_get calls j
      ≡ Some b → a.op.0 < b.op.0
  pub places : (i j : ℕ) (a b : Call) → i < j → slice_get calls i ≡ Some a → slice_get calls j
      ≡ Some b → a.invoked < b.invoked
  pub responses : (call : Call) (response : Response) → Contains calls call → call.response
      ≡ Some response → call.invoked < response.place
