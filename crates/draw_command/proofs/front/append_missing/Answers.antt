use Rattle.std.proofs.Common.{◌++◌, List, ℕ, ap, map, take_all, sym, ◌∙◌}
use Rattle.std.specs.Borrow.{Bor}
use Rattle.std.specs.List.{flat_map}
use Rattle.markup.specs.Markup.{rendered}
use Rattle.markup.proofs.Rendered.{rendered_each}
use Rattle.draw_command.specs.Pages.{missing_line}
use Rattle.draw_command.proofs.front.append_missing.Goals as goal

pub returns : goal.returns
returns c =
    let names = c.args.names.now in
    let old = c.args.page.now.items in
    let now = λ (t : Bor (List ℕ)). t.now in
    c.loop-name.invariant ∙ ap (λ (ns : List (Bor (List ℕ))). old ++ flat_map (λ (name : List ℕ). rendered (missing_line name)) (map now ns)) (take_all c.loop-name.name-index names c.loop-name-test.false)
    ∙ ap (λ (l : List ℕ). old ++ l) (sym (rendered_each missing_line (map now names)))
