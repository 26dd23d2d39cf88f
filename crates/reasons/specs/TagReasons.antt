-- Why a part's tags aren't sound: the calls that break the rule.
use Rattle.std.specs.Prelude.{ℕ, ◌≡◌, ◌≢◌, List, Option, Some, None, Contains}
use Rattle.tag.specs.declared.numbers.OpId.{OpId}
use Rattle.tag.specs.Tags.{Tag, least}
use Rattle.recorder.specs.declared.part.Call.{Call}
use Rattle.tag_check.specs.declared.rule.BrokenRule.{BrokenRule}
use Rattle.tag_check.specs.declared.rule.BrokenRule.TheVariants as rule
use Rattle.tag_check.specs.Rules.{LacksNote, IsLeastWrite, ShareTag, IsNotAbove, AnswersNoWrite}
use Rattle.tag_check.specs.Rules.{IsWriteOf}
use Rattle.reasons.specs.Calls.{AnswersNot, written_by}
use Rattle.reasons.specs.Unnoted.{IsFirstUnnoted}
use Rattle.reasons.specs.declared.tag_reasons.TagReason.{TagReason}
use Rattle.reasons.specs.declared.tag_reasons.TagReason.TheVariants as reason

-- the number of a call, if there is one
abbrev pub number_of : Option Call → Option OpId
number_of None = None
number_of (Some call) = Some call.op

-- the rule that a reason is one for
abbrev pub rule_of : TagReason → BrokenRule
rule_of (reason.NoNote call) = rule.NoNote call.op
rule_of (reason.LeastTag write) = rule.LeastTag write.op
rule_of (reason.SameTag earlier later) = rule.SameTag earlier.op later.op
rule_of (reason.NotAbove earlier later) = rule.NotAbove earlier.op later.op
rule_of (reason.NoWrite read unnoted) = rule.NoWrite read.op
rule_of (reason.OtherValue read write unnoted) = rule.OtherValue read.op (number_of write)

-- the value that the tag of a write stands for; without one, absent
abbrev pub tag_value : Option Call → Option (List ℕ)
tag_value None = None
tag_value (Some write) = written_by write.action

module _ (part : List Call) where
  -- the write is noted with the read's tag; none: that tag is the least
  abbrev pub IsWriteOfTag : Call → Option Call → Type 0
  IsWriteOfTag read None = read.note ≡ Some least
  IsWriteOfTag read (Some write) = Contains part write
      × ((tag : Tag) × (read.note ≡ Some tag) × (tag ≢ least) × IsWriteOf write tag)

  -- the calls of a reason break its rule
  abbrev pub BreaksRule : TagReason → Type 0
  BreaksRule (reason.NoNote call) = Contains part call × LacksNote call
  BreaksRule (reason.LeastTag write) = Contains part write × IsLeastWrite write
  BreaksRule (reason.SameTag earlier later) =
      Contains part earlier × Contains part later × ShareTag earlier later
  BreaksRule (reason.NotAbove earlier later) =
      Contains part earlier × Contains part later × IsNotAbove earlier later
  BreaksRule (reason.NoWrite read unnoted) =
      Contains part read × AnswersNoWrite part read × IsFirstUnnoted part read unnoted
  BreaksRule (reason.OtherValue read write unnoted) = Contains part read
      × IsWriteOfTag read write × AnswersNot read (tag_value write)
      × IsFirstUnnoted part read unnoted

  -- the reason is one for the rule, and its calls break it
  abbrev pub IsTagReason : BrokenRule → TagReason → Type 0
  IsTagReason rule reason = (rule_of reason ≡ rule) × BreaksRule reason
