use Rattle.std.proofs.Common.{◌≡◌, ◌++◌, drop}
use Rattle.markup.specs.Markup.{each, rendered}
use Rattle.labels.proofs.shapes.append_each.Given as goal

-- what was added, and the shapes of the items that are left
abbrev pub invariant-loop-item : goal.invariant-loop-item
invariant-loop-item g l = l.page.items ++ rendered (each (g.S.Shape.shape l.shapes) (drop l.item-index l.items))
    ≡ l.fn.page.items ++ rendered (each (g.S.Shape.shape l.shapes) l.items)
