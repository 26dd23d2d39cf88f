use Rattle.std.proofs.Common.{◌≡◌, ◌++◌, List, ℕ, map, take}
use Rattle.std.specs.Borrow.{Bor}
use Rattle.std.specs.List.{flat_map}
use Rattle.markup.specs.Markup.{rendered}
use Rattle.draw_command.specs.Pages.{elsewhere_line}
use Rattle.draw_command.proofs.around.append_names.Given as goal

abbrev pub invariant-loop-key : goal.invariant-loop-key
invariant-loop-key l = l.page.items ≡ l.fn.page.items ++ flat_map (λ (key : List ℕ). rendered (elsewhere_line l.number key)) (map (λ (t : Bor (List ℕ)). t.now) (take l.key-index l.keys))
