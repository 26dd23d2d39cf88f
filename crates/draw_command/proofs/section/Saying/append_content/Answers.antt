use Rattle.std.proofs.lemmas.Result.{on_ok_weaker}
use Rattle.draw_command.specs.Pages.{showing_markup, why_markup}
use Rattle.draw_command.proofs.Adding.{both_added}
use Rattle.draw_command.proofs.section.Saying.append_content.Goals as goal

pub returns : goal.returns
returns c =
    let saying = c.args.self.now in
    on_ok_weaker c.append_showing.result (λ added.
    both_added (why_markup saying.links.targets.now saying.links.calls.now saying.why.now) (showing_markup saying.around c.args.picture.now)
    c.args.page.now.items c.append_why.new.page.items _ c.in_ok-append_why.ensures added) c.append_showing.ensures
