-- The verdict on the tags of a part's calls.
use Rattle.std.specs.Prelude.{List, Option, Some, None}
use Rattle.recorder.specs.declared.part.Call.{Call}
use Rattle.recorder.specs.Sound.{TagSound}
use Rattle.tag_check.specs.declared.rule.BrokenRule.{BrokenRule}
use Rattle.tag_check.specs.declared.rule.BrokenRule.TheVariants.{NoNote, LeastTag, SameTag}
use Rattle.tag_check.specs.declared.rule.BrokenRule.TheVariants.{NotAbove, NoWrite, OtherValue}
use Rattle.tag_check.specs.Least.{LacksCall, HasNoPair, IsLeastCall, IsLeastPair}
use Rattle.tag_check.specs.Rules.{LacksNote, IsLeastWrite, ShareTag, IsNotAbove}
use Rattle.tag_check.specs.Rules.{AnswersNoWrite, IsOtherValue}

-- no rule before that one is broken
abbrev pub KeepsRulesBefore : List Call → BrokenRule → Type 0
KeepsRulesBefore part (NoNote call) = Unit {0}
KeepsRulesBefore part (LeastTag write) = LacksCall part LacksNote
KeepsRulesBefore part (SameTag earlier later) =
    LacksCall part LacksNote × LacksCall part IsLeastWrite
KeepsRulesBefore part (NotAbove earlier later) =
    LacksCall part LacksNote × LacksCall part IsLeastWrite × HasNoPair part ShareTag
KeepsRulesBefore part (NoWrite read) =
    LacksCall part LacksNote × LacksCall part IsLeastWrite × HasNoPair part ShareTag
    × HasNoPair part IsNotAbove
KeepsRulesBefore part (OtherValue read write) =
    LacksCall part LacksNote × LacksCall part IsLeastWrite × HasNoPair part ShareTag
    × HasNoPair part IsNotAbove × LacksCall part (AnswersNoWrite part)

-- the rule is broken by the calls that it names, of all that break it those with the least numbers
abbrev pub IsBroken : List Call → BrokenRule → Type 0
IsBroken part (NoNote call) = IsLeastCall part LacksNote call
IsBroken part (LeastTag write) = IsLeastCall part IsLeastWrite write
IsBroken part (SameTag earlier later) = IsLeastPair part ShareTag earlier later
IsBroken part (NotAbove earlier later) = IsLeastPair part IsNotAbove earlier later
IsBroken part (NoWrite read) = IsLeastCall part (AnswersNoWrite part) read
IsBroken part (OtherValue read write) = IsOtherValue part read write

-- none where the part's tags are sound, and otherwise the first rule that is broken
abbrev pub IsTagVerdict : List Call → Option BrokenRule → Type 0
IsTagVerdict part None = TagSound part
IsTagVerdict part (Some rule) = KeepsRulesBefore part rule × IsBroken part rule
