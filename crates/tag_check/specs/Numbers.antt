-- The numbers of the rules of sound tags, as programs print them.
use Rattle.std.specs.Prelude.{ℕ}
use Rattle.tag_check.specs.declared.rule.BrokenRule.{BrokenRule}
use Rattle.tag_check.specs.declared.rule.BrokenRule.TheVariants as rule

-- the number of a rule: of those that are broken the lowest is answered
abbrev pub broken_rule_number : BrokenRule → ℕ
broken_rule_number (rule.NoNote call) = 1
broken_rule_number (rule.LeastTag write) = 2
broken_rule_number (rule.SameTag earlier later) = 3
broken_rule_number (rule.NotAbove earlier later) = 4
broken_rule_number (rule.NoWrite read) = 5
broken_rule_number (rule.OtherValue read write) = 6
