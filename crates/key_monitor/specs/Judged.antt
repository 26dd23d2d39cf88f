-- The calls of a key by a row, and what one row more adds to them.
use Rattle.std.specs.Prelude.{ℕ, ◌≡◌, ◌≢◌, ◌<◌, ◌≤◌, ◌⊎◌, List, Option, Some, Contains}
use Rattle.recorder.specs.declared.part.Call.{Call}
use Rattle.recorder.specs.declared.part.Response.{Response}
use Rattle.recorder.specs.Parts.{IsSequence}
use Rattle.value_order.specs.Families.{IsAnsweredBy}
use Rattle.value_order.specs.Tables.{ReadsBy}
use Rattle.value_order.specs.Zones.{IsLastRow}
use Rattle.kept_families.specs.Continued.{Continues, IsTableOf}
use Rattle.kept_families.specs.Open.{IsOpen}
use Rattle.kept_families.specs.Oppositions.{IsFree}
use Rattle.kept_families.specs.SoundTables.{AreReads}
use Rattle.key_monitor.specs.ZonesOf.{HaveOwnEnds}

-- calls whose rows are all up to that one, with a sound table by which no two families are opposed
pub record AreJudged (part : List Call) (source : ℕ → Option ℕ) (row : ℕ) : Type 0 where
  pub sequence : IsSequence part
  pub own : HaveOwnEnds part
  pub last : IsLastRow part row
  pub begun : (call : Call) → Contains part call → call.invoked ≤ row
  pub table : IsTableOf part source
  pub sound : AreReads part (ReadsBy part source)
  pub free : IsFree part (ReadsBy part source) row

-- the calls by a row that is not earlier: of those by the first row nothing changed but its notes
pub record GoOn (row place : ℕ) (before after : List Call) : Type 0 where
  pub sequence : IsSequence after
  pub own : HaveOwnEnds after
  pub continues : Continues row before after
  pub later : row ≤ place
  pub begun : (call : Call) → Contains after call → call.invoked ≤ place

-- the later row begins that call, and answers none
pub record BeginsCall (row place : ℕ) (before after : List Call) (call : Call) : Type 0 where
  pub goes : GoOn row place before after
  pub later : row < place
  pub last : IsLastRow after row
  pub recorded : Contains after call
  pub at : call.invoked ≡ place
  pub others : (other : Call) → Contains after other → (other ≡ call) ⊎ (other.invoked ≤ row)

-- a pending read is left out, as one that ends no more: no other open read is
pub record LeavesOut (row : ℕ) (before after : List Call) (read : Call) : Type 0 where
  pub goes : GoOn row row before after
  pub last : IsLastRow after row
  pub gone : (other : Call) → IsOpen after row other → other.invoked ≢ read.invoked
  pub others : (other : Call) → IsOpen before row other → (other ≡ read)
      ⊎ ((same : Call) × IsOpen after row same × (same.invoked ≡ other.invoked))

-- of the calls that one alone was answered after the row, at that place; it began by the row
pub record IsOnlyAnswer (part : List Call) (row place : ℕ) (call : Call) : Type 0 where
  pub recorded : Contains part call
  pub response : Response
  pub responds : call.response ≡ Some response
  pub at : response.place ≡ place
  pub after : row < place
  pub began : call.invoked ≤ row
  pub others : (other : Call) → Contains part other → IsAnsweredBy place other
      → (other ≡ call) ⊎ IsAnsweredBy row other

-- the later row answers that call, and all calls began by the row
pub record AnswersCall (row place : ℕ) (before after : List Call) (call : Call) : Type 0 where
  pub goes : GoOn row place before after
  pub only : IsOnlyAnswer after row place call
  pub begun : (other : Call) → Contains after other → other.invoked ≤ row
  pub last : IsLastRow after place

-- the table says of one read more which write it has read
pub record HasEntry (source later : ℕ → Option ℕ) (read write : Call) : Type 0 where
  pub here : later read.op.0 ≡ Some write.op.0
  pub others : (number : ℕ) → number ≢ read.op.0 → later number ≡ source number
