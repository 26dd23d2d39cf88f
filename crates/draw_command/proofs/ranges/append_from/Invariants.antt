use Rattle.std.proofs.Common.{◌≡◌, ◌∷◌, ◌++◌, drop}
use Rattle.markup.specs.Markup.{rendered}
use Rattle.draw_command.specs.Ranges.{ranges_markup, ranges_of}
use Rattle.draw_command.proofs.RangeSteps.{still}
use Rattle.draw_command.proofs.ranges.append_from.Given as goal

abbrev pub invariant-loop-bar : goal.invariant-loop-bar
invariant-loop-bar l = l.page.items ++ rendered (still l.gaps l.from l.to (drop l.bar-index l.rest)) ≡ l.fn.page.items ++ rendered (ranges_markup (ranges_of l.gaps (l.fn.first ∷ l.rest)))
