use Rattle.std.proofs.Common.{ℕ, ◌++◌, ◌-◌, ap₂, ◌∙◌}
use Rattle.std.proofs.lemmas.Result.{on_ok_weaker}
use Rattle.markup.specs.Markup.{rendered}
use Rattle.draw_command.specs.Pages.{rest_line, table_size}
use Rattle.draw_command.specs.declared.words.TheConstants as word
use Rattle.draw_command.proofs.Adding.{both_added}
use Rattle.draw_command.proofs.table.append_left_out.Goals as goal

pub returns : goal.returns
returns c =
    let old = c.args.page.now.items in
    let rest = rest_line word.MORE.now (c.args.count - table_size) (c.args.refused - table_size) in
    let undrawn = rest_line word.UNDRAWN.now (c.args.count - c.args.pictured) (c.args.refused - c.args.pictured) in
    on_ok_weaker c.append_rest-2.result (λ added. both_added rest undrawn old c.append_rest.new.page.items c.append_rest-2.new.page.items
    (c.in_ok-append_rest.ensures ∙ ap₂ (λ (n m : ℕ). old ++ rendered (rest_line word.MORE.now n m)) c.saturating_sub.ensures c.saturating_sub-2.ensures)
    (added ∙ ap₂ (λ (n m : ℕ). c.append_rest.new.page.items ++ rendered (rest_line word.UNDRAWN.now n m)) c.saturating_sub-3.ensures c.saturating_sub-4.ensures)) c.append_rest-2.ensures
