use Rattle.std.proofs.Common.{◌≡◌, ◌++◌, List, ℕ, map, take}
use Rattle.std.specs.Borrow.{Bor}
use Rattle.std.specs.List.{flat_map}
use Rattle.markup.specs.Markup.{rendered}
use Rattle.draw_command.specs.Pages.{missing_line}
use Rattle.draw_command.proofs.front.append_missing.Given as goal

abbrev pub invariant-loop-name : goal.invariant-loop-name
invariant-loop-name l = l.page.items ≡ l.fn.page.items ++ flat_map (λ (name : List ℕ). rendered (missing_line name)) (map (λ (t : Bor (List ℕ)). t.now) (take l.name-index l.names))
