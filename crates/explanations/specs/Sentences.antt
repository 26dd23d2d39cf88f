-- Why a list is no order of a key's calls, and why their tags aren't sound, in sentences. Each is a
-- line of its own, after two blanks. They name calls, lines of the history file, and places in the
-- order.
use Rattle.std.specs.Prelude.{ℕ, List, [], ◌++◌, Option, Some, None, codes, decimal, slice_index}
use Rattle.std.specs.Prelude.{unwrap_or}
use Rattle.tag.specs.declared.actions.Action.{Action}
use Rattle.tag.specs.declared.actions.Action.TheVariants.{Read, Write}
use Rattle.tag.specs.declared.actions.Returned.{Returned}
use Rattle.tag.specs.declared.actions.Returned.TheVariants.{Value, Written}
use Rattle.tag.specs.declared.numbers.OpId.{OpId}
use Rattle.tag.specs.Tags.{Tag, least}
use Rattle.recorder.specs.declared.part.Call.{Call}
use Rattle.recorder.specs.declared.part.Response.{Response}
use Rattle.sentences.specs.Words.{tag_text, value_text}
use Rattle.tag_check.specs.declared.rule.BrokenRule.{BrokenRule}
use Rattle.tag_check.specs.declared.rule.BrokenRule.TheVariants as rule
use Rattle.reasons.specs.Notes.{note_place}
use Rattle.reasons.specs.OrderReasons.{last_value}
use Rattle.reasons.specs.TagReasons.{tag_value}
use Rattle.reasons.specs.declared.order_reasons.OrderReason.{OrderReason}
use Rattle.reasons.specs.declared.order_reasons.OrderReason.TheVariants as order_reason
use Rattle.reasons.specs.declared.order_reasons.PlacedCall.{PlacedCall}
use Rattle.reasons.specs.declared.tag_reasons.TagReason.{TagReason}
use Rattle.reasons.specs.declared.tag_reasons.TagReason.TheVariants as tag_reason
use Rattle.explanations.specs.declared.hall_rows.HallRows.{HallRows}

-- ---- lines of the history file

-- the line of the hall's row at that place; 0 if there is none
abbrev pub line_at : HallRows → ℕ → ℕ
line_at hall place = slice_index hall.lines.now place

-- the line of the row at that place, if there is one; else 0
abbrev pub line_of : HallRows → Option ℕ → ℕ
line_of hall None = 0
line_of hall (Some place) = line_at hall place

-- the line of the call's note
abbrev pub note_line : HallRows → Call → ℕ
note_line hall call = line_of hall (note_place hall.history.now.rows call)

-- the line of that response
abbrev pub response_line : HallRows → Option Response → ℕ
response_line hall None = 0
response_line hall (Some response) = line_at hall response.place

-- ---- calls

-- what a response answers: a read's a value or none; a write's nothing
unfoldable pub returned_text : Returned → List ℕ
returned_text Written = []
returned_text (Value value) = codes " and answers " ++ value_text value

-- what that response answers, if there is one
abbrev pub answer_text : Option Response → List ℕ
answer_text None = []
answer_text (Some response) = returned_text response.returned

-- what a call of that action and that response does on the key
unfoldable pub action_text : List ℕ → Action → Option Response → List ℕ
action_text key Read response = codes ", reads " ++ key ++ answer_text response
action_text key (Write value) response =
    codes ", writes " ++ value_text (Some value) ++ codes " to " ++ key

-- the tag that the call is noted with, and the line of its note
unfoldable pub note_text : HallRows → Call → Option Tag → List ℕ
note_text hall call None = codes ", not noted"
note_text hall call (Some tag) =
    codes ", noted " ++ tag_text tag ++ codes " at line " ++ decimal (note_line hall call)

-- the line of that response
unfoldable pub response_text : HallRows → Option Response → List ℕ
response_text hall None = codes ", not answered)"
response_text hall (Some response) =
    codes ", answered at line " ++ decimal (line_at hall response.place) ++ codes ")"

-- what a read should have answered
unfoldable pub due_line : Option (List ℕ) → List ℕ
due_line value =
    codes "  so the read should have answered " ++ value_text value ++ codes "\n"

module _ (key : List ℕ) (hall : HallRows) where
  -- a call on the key: its number, its client, what it does, and the lines of its rows
  unfoldable pub call_text : Call → List ℕ
  call_text call =
      codes "call " ++ decimal call.op.0 ++ codes ", client " ++ decimal call.client
      ++ action_text key call.action call.response
      ++ codes " (began at line " ++ decimal (line_at hall call.invoked)
      ++ note_text hall call call.note ++ response_text hall call.response

  -- a call after those words, to the end of the line
  unfoldable pub call_line : List ℕ → Call → List ℕ
  call_line words call = words ++ call_text call ++ codes "\n"

  -- after those words a place in the order, and the call that stands there
  unfoldable pub placed_line : List ℕ → ℕ → Call → List ℕ
  placed_line words place call = words ++ decimal place ++ call_line (codes ": ") call

-- ---- an order

-- the call at that place is none on the key
unfoldable pub unknown_text : List ℕ → ℕ → OpId → List ℕ
unknown_text key place op =
    codes "  place " ++ decimal place ++ codes ": call " ++ decimal op.0
    ++ codes ", which is no call on " ++ key
    ++ codes "\n  so the order should list only calls on " ++ key ++ codes "\n"

module _ (key : List ℕ) (hall : HallRows) where
  -- the call stands at two places
  unfoldable pub twice_text : ℕ → ℕ → Call → List ℕ
  twice_text earlier place call = placed_line key hall (codes "  place ") earlier call
      ++ codes "  place " ++ decimal place ++ codes ": call " ++ decimal call.op.0
      ++ codes " again\n  so the order should list it once\n"

  -- the completed call isn't listed
  abbrev pub missing_text : Call → List ℕ
  missing_text call = call_line key hall (codes "  missing: ") call
      ++ codes "  it was answered, so the order should list it\n"

  -- a pending read is listed
  abbrev pub pending_text : PlacedCall → List ℕ
  pending_text read = placed_line key hall (codes "  place ") read.place read.call
      ++ codes "  a read that was not answered shows nothing, so the order should leave it out\n"

  -- the read answers another value than the last write before it wrote
  unfoldable pub wrong_answer_text : PlacedCall → Option PlacedCall → List ℕ
  wrong_answer_text read None = placed_line key hall (codes "  place ") read.place read.call
      ++ codes "  no write stands before it in the order\n" ++ due_line None
  wrong_answer_text read (Some last) =
      placed_line key hall (codes "  place ") read.place read.call
      ++ placed_line key hall (codes "  the last write before it in the order is at place ")
      last.place last.call ++ due_line (last_value (Some last))

  -- the write without a note that the read may have read, if there is one
  unfoldable pub unnoted_text : Option Call → List ℕ
  unnoted_text None = []
  unnoted_text (Some write) = call_line key hall
      (codes "  the read answers what this write wrote, which was neither noted nor answered: ")
      write

  -- two calls stand against their precedence: the later was answered before the earlier began
  unfoldable pub order_broken_text : PlacedCall → PlacedCall → List ℕ
  order_broken_text earlier later =
      placed_line key hall (codes "  place ") earlier.place earlier.call
      ++ placed_line key hall (codes "  place ") later.place later.call
      ++ codes "  call " ++ decimal later.call.op.0
      ++ codes " was answered at line " ++ decimal (response_line hall later.call.response)
      ++ codes ", before call " ++ decimal earlier.call.op.0
      ++ codes " began at line " ++ decimal (line_at hall earlier.call.invoked)
      ++ codes ", so it should stand before call " ++ decimal earlier.call.op.0 ++ codes "\n"

  -- why a list is no order of the key's calls
  abbrev pub order_reason_text : OrderReason → List ℕ
  order_reason_text (order_reason.UnknownCall place op) = unknown_text key place op
  order_reason_text (order_reason.CallTwice earlier place call) = twice_text earlier place call
  order_reason_text (order_reason.MissingCall call) = missing_text call
  order_reason_text (order_reason.PendingRead read) = pending_text read
  order_reason_text (order_reason.WrongAnswer read last unnoted) =
      wrong_answer_text read last ++ unnoted_text unnoted
  order_reason_text (order_reason.OrderBroken earlier later) = order_broken_text earlier later

-- ---- tags

-- the tags that a call of that action may have after a call that is noted with the tag
unfoldable pub above_text : Action → Tag → List ℕ
above_text Read tag = tag_text tag ++ codes " or above"
above_text (Write value) tag = codes "above " ++ tag_text tag

module _ (key : List ℕ) (hall : HallRows) where
  -- the completed call has no note
  abbrev pub no_note_text : Call → List ℕ
  no_note_text call = call_line key hall (codes "  ") call
      ++ codes "  it was answered, so it should have a note\n"

  -- the write has the least tag
  abbrev pub least_tag_text : Call → List ℕ
  least_tag_text write = call_line key hall (codes "  ") write
      ++ codes "  (0, 0) is the tag before the first write, so a write should be noted above it\n"

  -- two writes have one tag
  abbrev pub same_tag_text : Call → Call → List ℕ
  same_tag_text earlier later =
      call_line key hall (codes "  ") earlier ++ call_line key hall (codes "  ") later
      ++ codes "  two writes should not have one tag\n"

  -- the later call's tag is too low: it began after the earlier one was answered
  unfoldable pub not_above_text : Call → Call → List ℕ
  not_above_text earlier later =
      call_line key hall (codes "  ") earlier ++ call_line key hall (codes "  ") later
      ++ codes "  call " ++ decimal later.op.0
      ++ codes " began at line " ++ decimal (line_at hall later.invoked)
      ++ codes ", after call " ++ decimal earlier.op.0
      ++ codes " was answered at line " ++ decimal (response_line hall earlier.response)
      ++ codes ", so it should be noted "
      ++ above_text later.action (unwrap_or earlier.note least) ++ codes "\n"

  -- no write has the read's tag
  unfoldable pub no_write_text : Call → List ℕ
  no_write_text read = call_line key hall (codes "  ") read
      ++ codes "  no write on " ++ key ++ codes " is noted "
      ++ tag_text (unwrap_or read.note least)
      ++ codes ", so the tag or the answer is from elsewhere\n"

  -- the read answers another value than its tag stands for: the write's, or, without one, none
  unfoldable pub other_value_text : Call → Option Call → List ℕ
  other_value_text read None = call_line key hall (codes "  ") read
      ++ codes "  (0, 0) is the tag before the first write\n" ++ due_line None
  other_value_text read (Some write) = call_line key hall (codes "  ") read
      ++ call_line key hall (codes "  ") write
      ++ codes "  the read has the tag of that write\n" ++ due_line (tag_value (Some write))

  -- the calls that break a rule of tags, and how
  abbrev pub broken_text : TagReason → List ℕ
  broken_text (tag_reason.NoNote call) = no_note_text call
  broken_text (tag_reason.LeastTag write) = least_tag_text write
  broken_text (tag_reason.SameTag earlier later) = same_tag_text earlier later
  broken_text (tag_reason.NotAbove earlier later) = not_above_text earlier later
  broken_text (tag_reason.NoWrite read unnoted) =
      no_write_text read ++ unnoted_text key hall unnoted
  broken_text (tag_reason.OtherValue read write unnoted) =
      other_value_text read write ++ unnoted_text key hall unnoted

-- what may have broken the rule
abbrev pub hint_text : TagReason → List ℕ
hint_text (tag_reason.NoNote call) =
    codes "an answer before the call was noted, or a log that lost a line"
hint_text (tag_reason.LeastTag write) = codes "a write that takes its tag without asking"
hint_text (tag_reason.SameTag earlier later) =
    codes "a write that takes its tag without asking, quorums that do not meet, "
    ++ codes "stale replies that are counted, or a replica that forgets"
hint_text (tag_reason.NotAbove earlier later) =
    codes "a read without its write-back, quorums that do not meet, a tag taken without asking, "
    ++ codes "stale replies that are counted, or a replica that forgets"
hint_text (tag_reason.NoWrite read unnoted) =
    codes "a value or a tag that no recorded write stored, or a log that lost a line"
hint_text (tag_reason.OtherValue read write unnoted) =
    codes "an answer from elsewhere, such as a value that was stored without its tag"

-- why the tags of the key's calls aren't sound
abbrev pub tag_reason_text : List ℕ → HallRows → TagReason → List ℕ
tag_reason_text key hall reason = broken_text key hall reason
    ++ codes "  hint: look for " ++ hint_text reason ++ codes "\n"

-- the rule that is broken, and the numbers of the calls that break it
abbrev pub rule_text : BrokenRule → List ℕ
rule_text (rule.NoNote call) = codes "1 no note for call " ++ decimal call.0
rule_text (rule.LeastTag write) = codes "2 least tag for write " ++ decimal write.0
rule_text (rule.SameTag earlier later) =
    codes "3 one tag for writes " ++ decimal earlier.0 ++ codes " and " ++ decimal later.0
rule_text (rule.NotAbove earlier later) = codes "4 call " ++ decimal later.0
    ++ codes " noted too low after call " ++ decimal earlier.0
rule_text (rule.NoWrite read) = codes "5 no write with the tag of read " ++ decimal read.0
rule_text (rule.OtherValue read None) =
    codes "6 read " ++ decimal read.0 ++ codes " answers a value with the least tag"
rule_text (rule.OtherValue read (Some write)) = codes "6 read " ++ decimal read.0
    ++ codes " answers another value than write " ++ decimal write.0
