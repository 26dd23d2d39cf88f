use Rattle.std.proofs.Common.{◌≡◌, ◌++◌}
use Rattle.markup.specs.Markup.{rendered}
use Rattle.labels.specs.Each.{each_below}
use Rattle.pictures.specs.Paper.{paper_strip}
use Rattle.pictures.proofs.paper.append_strips.Given as goal

abbrev pub invariant-loop-strip : goal.invariant-loop-strip
invariant-loop-strip l = l.page.items ≡ l.fn.page.items ++ rendered (each_below (paper_strip l.picture) l.strip)
