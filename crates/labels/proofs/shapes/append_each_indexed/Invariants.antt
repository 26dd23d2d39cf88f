use Rattle.std.proofs.Common.{◌≡◌, ◌++◌, drop}
use Rattle.markup.specs.Markup.{rendered}
use Rattle.labels.specs.Each.{each_from}
use Rattle.labels.proofs.shapes.append_each_indexed.Given as goal

-- what was added, and the shapes of the items that are left
abbrev pub invariant-loop-index : goal.invariant-loop-index
invariant-loop-index g l =
    l.page.items ++ rendered (each_from (g.S.IndexedShape.shape l.shapes) l.index (drop l.index l.items))
    ≡ l.fn.page.items ++ rendered (each_from (g.S.IndexedShape.shape l.shapes) 0 l.items)
