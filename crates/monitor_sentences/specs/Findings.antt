-- What was found of a key by the row at a place, in lines for people.
use Rattle.std.specs.Prelude.{ℕ, List, [], ◌++◌, Option, Some, None, codes, decimal}
use Rattle.std.specs.Prelude.{string_bytes}
use Rattle.tag.specs.declared.numbers.OpId.{OpId}
use Rattle.record_monitor.specs.declared.told.Told.{Told}
use Rattle.record_monitor.specs.declared.told.Told.TheVariants as told
use Rattle.record_monitor.specs.declared.told.ToldCall.{ToldCall}
use Rattle.record_monitor.specs.declared.told.ToldSide.{ToldSide}
use Rattle.value_explanations.specs.ValueSentences.{circle_text, doubt_text, value_fault_text}
use Rattle.value_order.specs.declared.decision.Doubt.{Doubt}
use Rattle.value_order.specs.declared.decision.Side.{Side}
use Rattle.value_order.specs.declared.decision.ValueFault.TheVariants.{LateNothing, Opposed}
use Rattle.monitor_sentences.specs.ToldCalls.{line_of, precedence_text, side_text, told_text}

-- the calls of a side by their numbers
abbrev pub side_of : ToldSide → Side
side_of side = record {
  write = side.write.op;
  first_ended = side.first_ended.op;
  last_begun = side.last_begun.op;
}

-- the read answers a value of which no write is kept
unfoldable pub forgotten_text : OpId → List ℕ
forgotten_text read = codes "1 read " ++ decimal read.0
    ++ codes " answers a value that was overwritten or never written"

-- each kept write of what the read answers was overwritten; these are two of them
unfoldable pub overwritten_text : OpId → OpId → OpId → List ℕ
overwritten_text read first second = codes "5 read " ++ decimal read.0
    ++ codes " answers what writes " ++ decimal first.0 ++ codes " and " ++ decimal second.0
    ++ codes " wrote, but each was overwritten before it began"

-- the fault that shows that no order is possible: as `abd decide` says it, but for a value that may
-- have been forgotten, and for several writes of one value
abbrev pub fault_text : Told → List ℕ
fault_text (told.NoWrite read value) = forgotten_text read.op
fault_text (told.LateNothing read earlier value) =
    value_fault_text (LateNothing read.op earlier.op)
fault_text (told.Opposed one other) = value_fault_text (Opposed (side_of one) (side_of other))
fault_text (told.AllOverwritten read value first second) =
    overwritten_text read.op first second

-- the read should have answered a value
unfoldable pub due_text : OpId → List ℕ
due_text read =
    codes ", so call " ++ decimal read.0 ++ codes " should have answered a value\n"

-- it should, since the earlier call had ended
unfoldable pub late_text : List ℕ → ToldCall → ToldCall → List ℕ → List ℕ
late_text key read earlier value =
    told_text key (Some value) earlier ++ told_text key None read
    ++ precedence_text earlier read ++ due_text read.op

-- each of two families must precede the other
unfoldable pub opposed_text : List ℕ → ToldSide → ToldSide → List ℕ
opposed_text key one other =
    side_text key one ++ side_text key other
    ++ precedence_text one.first_ended other.last_begun ++ codes "\n"
    ++ precedence_text other.first_ended one.last_begun ++ circle_text

-- which calls show the fault, and how
unfoldable pub reason_text : List ℕ → Told → List ℕ
reason_text key (told.NoWrite read value) = told_text key (Some (string_bytes value)) read
reason_text key (told.LateNothing read earlier value) =
    late_text key read earlier (string_bytes value)
reason_text key (told.Opposed one other) = opposed_text key one other
reason_text key (told.AllOverwritten read value first second) =
    told_text key (Some (string_bytes value)) read

-- the fault, if calls show it, to the end of the line
abbrev pub why_text : Option Told → List ℕ
why_text None = codes "\n"
why_text (Some why) = codes " " ++ fault_text why ++ codes "\n"

-- which calls show the fault, if some do
abbrev pub reason_if : List ℕ → Option Told → List ℕ
reason_if key None = []
reason_if key (Some why) = reason_text key why

module _ (key : List ℕ) (place : ℕ) where
  -- from the line of that row on no order is possible
  unfoldable pub from_text : List ℕ
  from_text = codes "  from line " ++ decimal (line_of place)
      ++ codes " on no order of the calls on " ++ key ++ codes " is possible\n"

  -- the key is refused: the fault, and the calls that show it
  unfoldable pub refused_lines : Option Told → List ℕ
  refused_lines why =
      key ++ codes ": not atomic" ++ why_text why ++ reason_if key why ++ from_text

-- the line on which that read was answered
unfoldable pub read_line : OpId → ℕ → List ℕ
read_line read place = codes "\n  read " ++ decimal read.0
    ++ codes " was answered at line " ++ decimal (line_of place) ++ codes "\n"

-- a read of the key may have read either of two writes
unfoldable pub doubt_lines : List ℕ → ℕ → Doubt → List ℕ
doubt_lines key place doubt =
    key ++ codes ": undecided: " ++ doubt_text doubt ++ read_line doubt.read place

-- a read of the key was given up, and is answered after all
unfoldable pub ended_lines : List ℕ → ℕ → OpId → List ℕ
ended_lines key place read = key ++ codes ": read " ++ decimal read.0
    ++ codes " was given up, and is answered after all" ++ read_line read place
