use Rattle.std.proofs.Common.{◌≡◌, ◌++◌}
use Rattle.markup.specs.Markup.{rendered}
use Rattle.labels.specs.Each.{each_below}
use Rattle.diagrams.specs.Strips.{strip_markup}
use Rattle.diagrams.proofs.strips.append_each_strip.Given as goal

abbrev pub invariant-loop-strip : goal.invariant-loop-strip
invariant-loop-strip l = l.page.items ≡ l.fn.page.items ++ rendered (each_below (strip_markup l.scene) l.strip)
