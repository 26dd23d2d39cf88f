-- Why values give no order, in sentences. Faults and doubts are said by the numbers of calls; a
-- reason is said in lines, each after two blanks, which name calls and lines of the history file.
use Rattle.std.specs.Prelude.{ℕ, List, [], ◌∷◌, ◌++◌, Bool, ◌||◌, cond, nat_eq}
use Rattle.std.specs.Prelude.{codes, decimal, fold}
use Rattle.tag.specs.declared.numbers.OpId.{OpId}
use Rattle.recorder.specs.declared.part.Call.{Call}
use Rattle.explanations.specs.Sentences.{call_line, line_at, response_line}
use Rattle.explanations.specs.declared.hall_rows.HallRows.{HallRows}
use Rattle.value_order.specs.declared.decision.Doubt.{Doubt}
use Rattle.value_order.specs.declared.decision.Side.{Side}
use Rattle.value_order.specs.declared.decision.ValueFault.{ValueFault}
use Rattle.value_order.specs.declared.decision.ValueFault.TheVariants as fault
use Rattle.value_explanations.specs.declared.oppositions.Opposition.{Opposition}
use Rattle.value_explanations.specs.declared.oppositions.Opposition.TheVariants.{Chain, Crossed}
use Rattle.value_explanations.specs.declared.value_reasons.SideCalls.{SideCalls}
use Rattle.value_explanations.specs.declared.value_reasons.ValueReason.{ValueReason}
use Rattle.value_explanations.specs.declared.value_reasons.ValueReason.TheVariants as reason

-- ---- faults and doubts

-- whether one call of a side ended first and began last
abbrev pub is_one : Side → Bool
is_one side = nat_eq side.first_ended.0 side.last_begun.0

-- how two sides are told: by three calls, if one has one, else by four
abbrev pub opposition_of : Side → Side → Opposition
opposition_of a b = cond (is_one b) (Chain a.first_ended b.last_begun a.last_begun)
    (cond (is_one a) (Chain b.first_ended a.last_begun b.last_begun) (Crossed a b))

-- which calls of two families precede each other
abbrev pub opposition_text : Opposition → List ℕ
opposition_text (Chain first middle last) =
    codes "4 call " ++ decimal first.0 ++ codes " comes before " ++ decimal middle.0
    ++ codes ", and " ++ decimal middle.0 ++ codes " before " ++ decimal last.0
    ++ codes ", but " ++ decimal first.0 ++ codes " and " ++ decimal last.0
    ++ codes " belong together"
opposition_text (Crossed a b) =
    codes "4 call " ++ decimal a.first_ended.0
    ++ codes " comes before " ++ decimal b.last_begun.0
    ++ codes ", and call " ++ decimal b.first_ended.0
    ++ codes " before " ++ decimal a.last_begun.0
    ++ codes ", but " ++ decimal a.first_ended.0 ++ codes " and " ++ decimal a.last_begun.0
    ++ codes " belong together, and " ++ decimal b.last_begun.0
    ++ codes " and " ++ decimal b.first_ended.0

-- each writer of the read was overwritten before it began
abbrev pub overwritten_text : Doubt → OpId → List ℕ
overwritten_text doubt between =
    codes "5 read " ++ decimal doubt.read.0
    ++ codes " answers what writes " ++ decimal doubt.first.0
    ++ codes " and " ++ decimal doubt.second.0
    ++ codes " wrote, but write " ++ decimal between.0 ++ codes " came between them and it"

-- the fault, and the numbers of the calls that show it
abbrev pub value_fault_text : ValueFault → List ℕ
value_fault_text (fault.NoWrite read) =
    codes "1 no write of what read " ++ decimal read.0 ++ codes " answers"
value_fault_text (fault.Early read write) =
    codes "2 read " ++ decimal read.0 ++ codes " ended before write " ++ decimal write.0
    ++ codes " of its value began"
value_fault_text (fault.LateNothing read call) =
    codes "3 read " ++ decimal read.0 ++ codes " answers nothing, but call " ++ decimal call.0
    ++ codes " had ended before it began"
value_fault_text (fault.Opposed a b) = opposition_text (opposition_of a b)
value_fault_text (fault.Overwritten doubt between) = overwritten_text doubt between

-- the two writes that a read may have read, and the read
abbrev pub doubt_text : Doubt → List ℕ
doubt_text doubt =
    codes "writes " ++ decimal doubt.first.0 ++ codes " and " ++ decimal doubt.second.0
    ++ codes " wrote what read " ++ decimal doubt.read.0 ++ codes " answers"

-- ---- the calls that they name

-- the calls of two sides
abbrev pub calls_of_opposition : Opposition → List OpId
calls_of_opposition (Chain first middle last) = first ∷ middle ∷ last ∷ []
calls_of_opposition (Crossed a b) =
    a.first_ended ∷ b.last_begun ∷ b.first_ended ∷ a.last_begun ∷ []

-- the calls that a fault names, in the order of its sentence
abbrev pub calls_of_fault : ValueFault → List OpId
calls_of_fault (fault.NoWrite read) = read ∷ []
calls_of_fault (fault.Early read write) = read ∷ write ∷ []
calls_of_fault (fault.LateNothing read call) = read ∷ call ∷ []
calls_of_fault (fault.Opposed a b) = calls_of_opposition (opposition_of a b)
calls_of_fault (fault.Overwritten doubt between) =
    doubt.read ∷ doubt.first ∷ doubt.second ∷ between ∷ []

-- the calls that a doubt names, in the order of its sentence
abbrev pub calls_of_doubt : Doubt → List OpId
calls_of_doubt doubt = doubt.first ∷ doubt.second ∷ doubt.read ∷ []

-- a list so far, and a call after a comma
abbrev pub with_call : List ℕ → OpId → List ℕ
with_call text call = text ++ codes "," ++ decimal call.0

-- calls as a JSON list of their numbers
abbrev pub list_text : List OpId → List ℕ
list_text [] = codes "[]"
list_text (call ∷ calls) = fold with_call (codes "[" ++ decimal call.0) calls ++ codes "]"

-- ---- reasons

-- the earlier call was answered before the later one began
unfoldable pub precedence_text : HallRows → Call → Call → List ℕ
precedence_text hall earlier later =
    codes "  call " ++ decimal earlier.op.0
    ++ codes " was answered at line " ++ decimal (response_line hall earlier.response)
    ++ codes ", before call " ++ decimal later.op.0
    ++ codes " began at line " ++ decimal (line_at hall later.invoked)

-- whether the two are one call of a part
abbrev pub is_same : Call → Call → Bool
is_same a b = nat_eq a.op.0 b.op.0

-- why two families that must precede each other have no order
unfoldable pub circle_text : List ℕ
circle_text =
    codes "\n  in an order the reads of a value stand between its write and the next write, "
    ++ codes "so each of these two values would have to come before the other\n"

module _ (key : List ℕ) (hall : HallRows) where
  -- a call, a line
  abbrev pub said_line : Call → List ℕ
  said_line call = call_line key hall (codes "  ") call

  -- the same, unless it was said
  abbrev pub unsaid_line : Bool → Call → List ℕ
  unsaid_line said call = cond said [] (said_line call)

  -- the calls of a side, each once
  unfoldable pub side_text : SideCalls → List ℕ
  side_text side =
      said_line side.write
      ++ unsaid_line (is_same side.first_ended side.write) side.first_ended
      ++ unsaid_line (is_same side.last_begun side.write
      || is_same side.last_begun side.first_ended) side.last_begun

  -- the read answers what no write of the part writes
  unfoldable pub no_write_text : Call → List ℕ
  no_write_text read =
      said_line read ++ codes "  no call on " ++ key ++ codes " writes what it answers\n"

  -- the read was answered before the write began, which is the first of its value
  unfoldable pub early_text : Call → Call → List ℕ
  early_text read write =
      said_line read ++ said_line write ++ precedence_text hall read write
      ++ codes ", and no earlier write has its value\n"

  -- the read answers nothing, and began after the earlier call had ended
  unfoldable pub late_text : Call → Call → List ℕ
  late_text read earlier =
      said_line earlier ++ said_line read ++ precedence_text hall earlier read
      ++ codes ", so call " ++ decimal read.op.0 ++ codes " should have answered a value\n"

  -- each of two families must precede the other
  unfoldable pub opposed_text : SideCalls → SideCalls → List ℕ
  opposed_text one other =
      side_text one ++ side_text other
      ++ precedence_text hall one.first_ended other.last_begun ++ codes "\n"
      ++ precedence_text hall other.first_ended one.last_begun ++ circle_text

  -- the write between began after the writers were answered, and ended before the read began
  unfoldable pub between_text : Call → Call → Call → Call → List ℕ
  between_text read first second between =
      said_line read ++ said_line first ++ said_line second ++ said_line between
      ++ codes "  call " ++ decimal between.op.0
      ++ codes " began after these writes were answered, and was answered before call "
      ++ decimal read.op.0 ++ codes " began\n"

  -- why values give no order
  abbrev pub value_reason_text : ValueReason → List ℕ
  value_reason_text (reason.NoWrite read) = no_write_text read
  value_reason_text (reason.Early read write) = early_text read write
  value_reason_text (reason.LateNothing read earlier) = late_text read earlier
  value_reason_text (reason.Opposed one other) = opposed_text one other
  value_reason_text (reason.Overwritten read first second between) =
      between_text read first second between
