use Rattle.std.proofs.lemmas.Result.{on_ok_weaker}
use Rattle.std.proofs.Common.{[]}
use Rattle.markup.specs.Markup.{both, element}
use Rattle.markup.specs.Texts.{of_class}
use Rattle.markup.specs.declared.names.Element.TheVariants as tag
use Rattle.judged_keys.specs.Judgements.{judgement_of}
use Rattle.draw_command.specs.Pages.{content_markup, heading_markup}
use Rattle.draw_command.specs.declared.words.TheConstants.{FOLDED}
use Rattle.draw_command.proofs.Adding.{both_added, element_added}
use Rattle.draw_command.proofs.section.Saying.append_folded.Goals as goal

pub returns : goal.returns
returns c =
    let saying = c.args.self.now in
    let heading = heading_markup saying.hall (judgement_of c.args.key.now) in
    let content = content_markup saying.links.targets.now saying.links.calls.now saying.why.now saying.around c.args.picture.now in
    let opened = c.open_of_class.new.page.items in
    let begun = c.append_opening.new.page.items in
    let headed = c.append_heading.new.page.items in
    let summed = c.append_closing.new.page.items in
    let shown = c.append_content.new.page.items in
    let summary = element_added tag.Summary [] heading opened begun headed summed c.in_ok-append_opening.ensures c.in_ok-append_heading.ensures
    c.in_ok-append_closing.ensures in
    on_ok_weaker c.append_closing-2.result
    (element_added tag.Details (of_class FOLDED.now) (both (element tag.Summary [] heading) content) c.args.page.now.items opened shown _
    c.in_ok-open_of_class.ensures (both_added (element tag.Summary [] heading) content opened summed shown summary c.in_ok-append_content.ensures))
    c.append_closing-2.ensures
