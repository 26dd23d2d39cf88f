-- Why a list isn't an order of a part: the calls that show its fault.
use Rattle.std.specs.Prelude.{ℕ, ◌≡◌, ◌<◌, ◌+◌, List, Option, Some, None, slice_get, Contains}
use Rattle.tag.specs.declared.numbers.OpId.{OpId}
use Rattle.recorder.specs.declared.part.Call.{Call}
use Rattle.recorder.specs.Orders.{StandsAt, NoWriteFrom}
use Rattle.recorder.specs.Parts.{IsCompleted, IsPending, Precedes}
use Rattle.recorder.specs.Sound.{IsRead, IsWrite}
use Rattle.certificate_check.specs.Verdicts.{IsLeast}
use Rattle.certificate_check.specs.declared.verdict.Fault.{Fault}
use Rattle.certificate_check.specs.declared.verdict.Fault.TheVariants as fault
use Rattle.reasons.specs.Calls.{IsCallOf, AnswersNot, written_by}
use Rattle.reasons.specs.Unnoted.{IsFirstUnnoted}
use Rattle.reasons.specs.declared.order_reasons.OrderReason.{OrderReason}
use Rattle.reasons.specs.declared.order_reasons.OrderReason.TheVariants as reason
use Rattle.reasons.specs.declared.order_reasons.PlacedCall.{PlacedCall}

-- the fault that a reason is one for
abbrev pub fault_of : OrderReason → Fault
fault_of (reason.UnknownCall place op) = fault.UnknownCall place
fault_of (reason.CallTwice earlier place call) = fault.CallTwice place
fault_of (reason.MissingCall call) = fault.MissingCall call.op
fault_of (reason.PendingRead read) = fault.PendingRead read.place
fault_of (reason.WrongAnswer read last unnoted) = fault.WrongAnswer read.place
fault_of (reason.OrderBroken earlier later) = fault.OrderBroken earlier.place later.place

-- the value of a register after its last write; without one, absent
abbrev pub last_value : Option PlacedCall → Option (List ℕ)
last_value None = None
last_value (Some last) = written_by last.call.action

-- the number at place i stands at place k
abbrev pub HasNumberOf : List OpId → ℕ → ℕ → Type 0
HasNumberOf order i k = slice_get order k ≡ slice_get order i

module _ (part : List Call) (order : List OpId) where
  -- the call stands at its place
  abbrev pub Stands : PlacedCall → Type 0
  Stands placed = StandsAt part order placed.place placed.call

  -- the last write before place i; none: no write stands before it
  abbrev pub IsLastWriteBefore : ℕ → Option PlacedCall → Type 0
  IsLastWriteBefore i None = NoWriteFrom part order 0 i
  IsLastWriteBefore i (Some last) = (last.place < i) × Stands last × IsWrite last.call
      × NoWriteFrom part order (last.place + 1) i

  -- the calls of a reason show that the list isn't an order of the part
  abbrev pub ShowsNoOrder : OrderReason → Type 0
  -- the number at the place is that of no call
  ShowsNoOrder (reason.UnknownCall place op) =
      (slice_get order place ≡ Some op) × ((call : Call) → IsCallOf part op call → ⊥)
  -- the call stands at the place, and first at the earlier one
  ShowsNoOrder (reason.CallTwice earlier place call) = (earlier < place)
      × StandsAt part order place call × IsLeast (λ k. StandsAt part order k call) earlier
  -- the completed call stands nowhere
  ShowsNoOrder (reason.MissingCall call) = Contains part call × IsCompleted call
      × ((k : ℕ) → StandsAt part order k call → ⊥)
  -- the call is a pending read
  ShowsNoOrder (reason.PendingRead read) =
      Stands read × IsPending read.call × IsRead read.call
  -- the read doesn't answer what the last write before it wrote
  ShowsNoOrder (reason.WrongAnswer read last unnoted) = Stands read
      × IsLastWriteBefore read.place last × AnswersNot read.call (last_value last)
      × IsFirstUnnoted part read.call unnoted
  -- the call that stands later was answered before the earlier one began
  ShowsNoOrder (reason.OrderBroken earlier later) = (earlier.place < later.place)
      × Stands earlier × Stands later × Precedes later.call earlier.call

  -- the reason is one for the fault, and its calls show it
  abbrev pub IsOrderReason : Fault → OrderReason → Type 0
  IsOrderReason fault reason = (fault_of reason ≡ fault) × ShowsNoOrder reason
