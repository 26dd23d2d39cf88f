use Rattle.std.proofs.Common.{◌++◌, List, ℕ, ap, map, take_all, sym, ◌∙◌}
use Rattle.std.specs.Borrow.{Bor}
use Rattle.std.specs.List.{flat_map}
use Rattle.markup.specs.Markup.{rendered}
use Rattle.markup.proofs.Rendered.{rendered_each}
use Rattle.draw_command.specs.Pages.{elsewhere_line}
use Rattle.draw_command.proofs.around.append_names.Goals as goal

pub returns : goal.returns
returns c =
    let keys = c.args.keys.now in
    let old = c.args.page.now.items in
    let number = c.args.number in
    let now = λ (t : Bor (List ℕ)). t.now in
    c.loop-key.invariant ∙ ap (λ (ns : List (Bor (List ℕ))). old ++ flat_map (λ (key : List ℕ). rendered (elsewhere_line number key)) (map now ns)) (take_all c.loop-key.key-index keys c.loop-key-test.false)
    ∙ ap (λ (l : List ℕ). old ++ l) (sym (rendered_each (elsewhere_line number) (map now keys)))
