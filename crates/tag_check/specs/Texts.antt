-- The texts of the rules of sound tags, as programs print them. Each begins with the rule's number.
use Rattle.std.specs.Prelude.{ℕ, List, ◌++◌, Some, None, codes, decimal}
use Rattle.tag_check.specs.declared.rule.BrokenRule.{BrokenRule}
use Rattle.tag_check.specs.declared.rule.BrokenRule.TheVariants as rule

-- words and a number, and then other words
abbrev pub said : List ℕ → ℕ → List ℕ → List ℕ
said words number others = words ++ (decimal number ++ others)

-- the text of a rule and of the calls that break it
abbrev pub broken_rule_text : BrokenRule → List ℕ
broken_rule_text (rule.NoNote call) = codes "1 no note for call " ++ decimal call.0
broken_rule_text (rule.LeastTag write) = codes "2 least tag for write " ++ decimal write.0
broken_rule_text (rule.SameTag earlier later) =
    said (codes "3 one tag for writes ") earlier.0 (codes " and " ++ decimal later.0)
broken_rule_text (rule.NotAbove earlier later) =
    said (codes "4 call ") later.0 (codes " noted too low after call " ++ decimal earlier.0)
broken_rule_text (rule.NoWrite read) = codes "5 no write with the tag of read " ++ decimal read.0
broken_rule_text (rule.OtherValue read (Some write)) =
    said (codes "6 read ") read.0 (codes " answers another value than write " ++ decimal write.0)
broken_rule_text (rule.OtherValue read None) =
    said (codes "6 read ") read.0 (codes " answers a value with the least tag")
