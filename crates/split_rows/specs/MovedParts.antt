-- The part of a key in a piece, beside its part in the whole history.
use Rattle.std.specs.Prelude.{ℕ, ◌≡◌, ◌↔◌, List, Option, Some, None, length, slice_get}
use Rattle.tag.specs.declared.actions.Returned.{Returned}
use Rattle.tag.specs.declared.numbers.OpId.{OpId}
use Rattle.recorder.specs.declared.part.Call.{Call}
use Rattle.recorder.specs.declared.part.Response.{Response}
use Rattle.recorder.specs.Parts.{Precedes}

-- what a call answered, if it has its response
abbrev pub answer_in : Option Response → Option Returned
answer_in None = None
answer_in (Some response) = Some response.returned

-- the call under its new number: its client, its action, its note and its answer stay, and its
-- places may differ
pub record IsMovedCall (number : OpId → OpId) (call moved : Call) : Type 0 where
  pub op : moved.op ≡ number call.op
  pub client : moved.client ≡ call.client
  pub action : moved.action ≡ call.action
  pub note : moved.note ≡ call.note
  pub answer : answer_in moved.response ≡ answer_in call.response

-- the moved part has the calls of the part in the same order, under numbers that tell them apart,
-- and with the same precedence
pub record IsMovedPart (number : OpId → OpId) (part moved : List Call) : Type 0 where
  pub count : length moved ≡ length part
  pub each : (i : ℕ) (a b : Call) → slice_get part i ≡ Some a → slice_get moved i ≡ Some b
      → IsMovedCall number a b
  pub apart : (i j : ℕ) (a b : Call) → slice_get part i ≡ Some a → slice_get part j ≡ Some b
      → number a.op ≡ number b.op → i ≡ j
  pub precedence : (i j : ℕ) (a b c d : Call) → slice_get part i ≡ Some a
      → slice_get part j ≡ Some b → slice_get moved i ≡ Some c → slice_get moved j ≡ Some d
      → Precedes a b ↔ Precedes c d
