-- What values decide of a part.
use Rattle.std.specs.Prelude.{ℕ, ◌↔◌, ◌⊎◌, List, Contains}
use Rattle.tag.specs.declared.numbers.OpId.{OpId}
use Rattle.recorder.specs.declared.part.Call.{Call}
use Rattle.recorder.specs.Orders.{StandsAt, IsOrder, IsLinearizable}
use Rattle.recorder.specs.Parts.{IsCompleted}
use Rattle.tag_check.specs.Least.{IsLeastCall, IsLeastPair, LacksCall, HasNoPair}
use Rattle.value_order.specs.declared.decision.Decision.{Decision}
use Rattle.value_order.specs.declared.decision.Decision.TheVariants as decision
use Rattle.value_order.specs.declared.decision.ValueFault.{ValueFault}
use Rattle.value_order.specs.declared.decision.ValueFault.TheVariants as fault
use Rattle.value_order.specs.declared.decision.ValueVerdict.{ValueVerdict}
use Rattle.value_order.specs.declared.decision.ValueVerdict.TheVariants as verdict
use Rattle.value_order.specs.Doubts.{IsLeastDoubt}
use Rattle.value_order.specs.Families.{HasNoneOpposed}
use Rattle.value_order.specs.Faults.{AnswersUnwritten, EndsTooEarly, IsLateNothing, IsStaleDoubt}
use Rattle.value_order.specs.Nothings.{IsLeastLate}
use Rattle.value_order.specs.Rows.{IsFirstOpposed}
use Rattle.value_order.specs.Stales.{IsLeastOverwritten}
use Rattle.value_order.specs.Writers.{IsInDoubt, IsOnlyWriter, HasOneWriter}

module _ (part : List Call) where
  -- the fault is there, as it is named
  abbrev pub IsFault : ValueFault → Type 0
  IsFault (fault.NoWrite read) = IsLeastCall part (AnswersUnwritten part) read
  IsFault (fault.Early read write) = IsLeastPair part (EndsTooEarly part) write read
  IsFault (fault.LateNothing read call) = IsLeastLate part read call
  IsFault (fault.Opposed a b) = IsFirstOpposed part a b
  IsFault (fault.Overwritten doubt between) = IsLeastOverwritten part doubt between

  -- no read has the faults 1 to 3
  pub record LacksReadFaults : Type 0 where
    pub unwritten : LacksCall part (AnswersUnwritten part)
    pub early : HasNoPair part (EndsTooEarly part)
    pub late : HasNoPair part IsLateNothing

  -- none of the faults before that one is there
  abbrev pub LacksFaultsBefore : ValueFault → Type 0
  LacksFaultsBefore (fault.NoWrite read) = Unit {0}
  LacksFaultsBefore (fault.Early read write) = LacksCall part (AnswersUnwritten part)
  LacksFaultsBefore (fault.LateNothing read call) =
      LacksCall part (AnswersUnwritten part) × HasNoPair part (EndsTooEarly part)
  LacksFaultsBefore (fault.Opposed a b) = LacksReadFaults
  LacksFaultsBefore (fault.Overwritten doubt between) =
      LacksReadFaults × HasNoneOpposed part (IsOnlyWriter part)

  -- no fault is there
  pub record LacksFaults : Type 0 where
    pub reads : LacksReadFaults
    pub opposed : HasNoneOpposed part (IsOnlyWriter part)
    pub stale : LacksCall part (IsStaleDoubt part)

  -- each listed call is completed, or a pending write that is the only writer of a read
  abbrev pub ListsNeeded : List OpId → Type 0
  ListsNeeded order = (i : ℕ) (call : Call) → StandsAt part order i call → IsCompleted call
      ⊎ ((read : Call) × Contains part read × IsOnlyWriter part call read)

  -- what is decided
  abbrev pub IsDecision : Decision → Type 0
  IsDecision (decision.Atomic order) = IsOrder part order × ListsNeeded order
  IsDecision (decision.NotAtomic f) = IsFault f × LacksFaultsBefore f
  IsDecision (decision.Undecided doubt) = IsLeastDoubt part (IsInDoubt part) doubt × LacksFaults

  -- the same without an order
  abbrev pub IsVerdict : ValueVerdict → Type 0
  IsVerdict verdict.Atomic = IsLinearizable part
  IsVerdict (verdict.NotAtomic f) = IsFault f × LacksFaultsBefore f
  IsVerdict (verdict.Undecided doubt) = IsLeastDoubt part (IsInDoubt part) doubt × LacksFaults

-- an order is answered
abbrev pub IsAtomic : Decision → Type 0
IsAtomic (decision.Atomic order) = Unit {0}
IsAtomic (decision.NotAtomic f) = ⊥
IsAtomic (decision.Undecided doubt) = ⊥

-- where each read has one writer at most, an order is answered exactly if there is one
abbrev pub IsExact : List Call → Decision → Type 0
IsExact part decided = HasOneWriter part → IsAtomic decided ↔ IsLinearizable part

-- the verdict is that there is an order
abbrev pub SaysAtomic : ValueVerdict → Type 0
SaysAtomic verdict.Atomic = Unit {0}
SaysAtomic (verdict.NotAtomic f) = ⊥
SaysAtomic (verdict.Undecided doubt) = ⊥

-- where each read has one writer at most, that is said exactly if there is one
abbrev pub IsExactVerdict : List Call → ValueVerdict → Type 0
IsExactVerdict part said = HasOneWriter part → SaysAtomic said ↔ IsLinearizable part
