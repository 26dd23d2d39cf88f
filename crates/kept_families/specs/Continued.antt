-- Parts that go on: what a row adds to the calls leaves them as they were up to the row before.
use Rattle.std.specs.Prelude.{ℕ, ◌≡◌, ◌<◌, ◌≤◌, ◌⊎◌, ◌↔◌, List, Option, Some, Contains}
use Rattle.recorder.specs.declared.part.Call.{Call}
use Rattle.recorder.specs.declared.part.Response.{Response}
use Rattle.recorder.specs.Sound.{IsWrite}
use Rattle.value_order.specs.Families.{IsAnsweredBy}
use Rattle.value_order.specs.Tables.{ReadsBy}
use Rattle.kept_families.specs.Open.{IsOpen}

-- up to the row the two are one call: they differ in a note, or in a response after it
pub record IsSameBy (row : ℕ) (one other : Call) : Type 0 where
  pub number : one.op ≡ other.op
  pub action : one.action ≡ other.action
  pub invoked : one.invoked ≡ other.invoked
  pub answered : (response : Response) → response.place ≤ row
      → (one.response ≡ Some response) ↔ (other.response ≡ Some response)

-- the call as another part has it
pub record HasSame (row : ℕ) (other : List Call) (call : Call) : Type 0 where
  pub now : Call
  pub recorded : Contains other now
  pub same : IsSameBy row call now

-- what may be of a family by the row: a write that was begun, a call that was answered
abbrev pub CountsBy : ℕ → Call → Type 0
CountsBy row call = (IsWrite call × (call.invoked ≤ row)) ⊎ IsAnsweredBy row call

-- each such call of one part is one of the other
abbrev pub AreIn : ℕ → List Call → List Call → Type 0
AreIn row one other =
    (call : Call) → Contains one call → CountsBy row call → HasSame row other call

-- each read that is open in the part began after the row, or is open in the other
abbrev pub AreOpenIn : ℕ → List Call → List Call → Type 0
AreOpenIn row part other = (read : Call) → IsOpen part row read → (row < read.invoked)
    ⊎ ((same : Call) × IsOpen other row same × (same.invoked ≡ read.invoked))

-- the two parts are one up to the row, but for reads that are pending before and left out after
pub record Continues (row : ℕ) (before after : List Call) : Type 0 where
  pub there : AreIn row before after
  pub back : AreIn row after before
  pub opens : AreOpenIn row after before

-- each entry of the table is of two calls of the part
abbrev pub IsTableOf : List Call → (ℕ → Option ℕ) → Type 0
IsTableOf part source = (number target : ℕ) → source number ≡ Some target → (write : Call)
    × (read : Call) × ReadsBy part source write read × (read.op.0 ≡ number)

-- the later table has the entries of the other, and new ones of reads alone that were answered
-- after the row
pub record Extends (row : ℕ) (after : List Call) (source later : ℕ → Option ℕ) : Type 0 where
  pub grows : (number target : ℕ) → source number ≡ Some target → later number ≡ Some target
  pub fresh : (read : Call) (target : ℕ) → Contains after read → IsAnsweredBy row read
      → later read.op.0 ≡ Some target → source read.op.0 ≡ Some target
