use Rattle.std.proofs.lemmas.Result.{on_ok_weaker}
use Rattle.judged_keys.specs.Judgements.{judgement_of}
use Rattle.draw_command.specs.Pages.{content_markup, heading_markup}
use Rattle.draw_command.proofs.Adding.{both_added}
use Rattle.draw_command.proofs.section.Saying.append_open.Goals as goal

pub returns : goal.returns
returns c =
    let saying = c.args.self.now in
    on_ok_weaker c.append_content.result (λ added.
    both_added (heading_markup saying.hall (judgement_of c.args.key.now))
    (content_markup saying.links.targets.now saying.links.calls.now saying.why.now saying.around c.args.picture.now)
    c.args.page.now.items c.append_heading.new.page.items _ c.in_ok-append_heading.ensures added) c.append_content.ensures
