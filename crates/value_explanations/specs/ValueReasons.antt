-- Why values give no order: the calls that show the fault.
use Rattle.std.specs.Prelude.{◌≡◌, ◌≢◌, ◌≤◌, List, Contains}
use Rattle.recorder.specs.declared.part.Call.{Call}
use Rattle.recorder.specs.Parts.{Precedes}
use Rattle.reasons.specs.Calls.{IsCallOf}
use Rattle.value_order.specs.declared.decision.Side.{Side}
use Rattle.value_order.specs.declared.decision.ValueFault.{ValueFault}
use Rattle.value_order.specs.declared.decision.ValueFault.TheVariants as fault
use Rattle.value_order.specs.Families.{IsOfFamily}
use Rattle.value_order.specs.Faults.{AnswersUnwritten, EndsTooEarly, IsBetween, IsLateNothing}
use Rattle.value_order.specs.Writers.{IsOnlyWriter, IsWriter}
use Rattle.value_explanations.specs.declared.value_reasons.SideCalls.{SideCalls}
use Rattle.value_explanations.specs.declared.value_reasons.ValueReason.{ValueReason}
use Rattle.value_explanations.specs.declared.value_reasons.ValueReason.TheVariants as reason

-- the numbers of a side's calls
abbrev pub side_of : SideCalls → Side
side_of side = record {
  write = side.write.op;
  first_ended = side.first_ended.op;
  last_begun = side.last_begun.op;
}

-- the fault that a reason is one for
abbrev pub fault_of : ValueReason → ValueFault
fault_of (reason.NoWrite read) = fault.NoWrite read.op
fault_of (reason.Early read write) = fault.Early read.op write.op
fault_of (reason.LateNothing read earlier) = fault.LateNothing read.op earlier.op
fault_of (reason.Opposed one other) = fault.Opposed (side_of one) (side_of other)
fault_of (reason.Overwritten read first second between) =
    fault.Overwritten (record { read = read.op; first = first.op; second = second.op }) between.op

module _ (part : List Call) where
  -- the part has calls of the side's numbers
  pub record HasCallsOf (side : Side) : Type 0 where
    pub write : (call : Call) × IsCallOf part side.write call
    pub first : (call : Call) × IsCallOf part side.first_ended call
    pub last : (call : Call) × IsCallOf part side.last_begun call

  -- the calls of a side are the part's
  pub record ArePartCalls (side : SideCalls) : Type 0 where
    pub write : Contains part side.write
    pub first : Contains part side.first_ended
    pub last : Contains part side.last_begun

  -- the read was answered before the write began, which is the first of its value
  pub record IsEarly (read write : Call) : Type 0 where
    pub read_recorded : Contains part read
    pub write_recorded : Contains part write
    pub early : EndsTooEarly part write read
    pub before : Precedes read write
    pub first : (other : Call) → Contains part other → other.action ≡ write.action
        → write.op.0 ≤ other.op.0

  -- the calls of a side are of its write's family
  pub record IsSide (side : SideCalls) : Type 0 where
    pub write : Contains part side.write
    pub first : IsOfFamily part (IsOnlyWriter part) side.write side.first_ended
    pub last : IsOfFamily part (IsOnlyWriter part) side.write side.last_begun

  -- each of two families has a call that precedes one of the other
  pub record OpposeEachOther (one other : SideCalls) : Type 0 where
    pub first : IsSide one
    pub second : IsSide other
    pub apart : one.write ≢ other.write
    pub there : Precedes one.first_ended other.last_begun
    pub back : Precedes other.first_ended one.last_begun

  -- the read has two writers, and that call is between each of its writers and the read
  pub record IsOverwritten (read first second between : Call) : Type 0 where
    pub read_recorded : Contains part read
    pub one : IsWriter part first read
    pub other : IsWriter part second read
    pub apart : first ≢ second
    pub between_recorded : Contains part between
    pub each : (write : Call) → IsWriter part write read → IsBetween part write between read

  -- the calls of a reason show its fault
  abbrev pub ShowsFault : ValueReason → Type 0
  ShowsFault (reason.NoWrite read) = Contains part read × AnswersUnwritten part read
  ShowsFault (reason.Early read write) = IsEarly read write
  ShowsFault (reason.LateNothing read earlier) =
      Contains part read × Contains part earlier × IsLateNothing earlier read
  ShowsFault (reason.Opposed one other) = OpposeEachOther one other
  ShowsFault (reason.Overwritten read first second between) =
      IsOverwritten read first second between

  -- the reason is one for the fault, and its calls show it
  abbrev pub IsValueReason : ValueFault → ValueReason → Type 0
  IsValueReason fault reason = (fault_of reason ≡ fault) × ShowsFault reason
