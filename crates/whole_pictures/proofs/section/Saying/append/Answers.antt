use Rattle.std.proofs.lemmas.Result.{on_ok_weaker}
use Rattle.markup.specs.Markup.{both}
use Rattle.markup.specs.declared.names.Element.TheVariants as tag
use Rattle.draw_command.specs.Pages.{showing_markup}
use Rattle.draw_command.proofs.Adding.{both_added, element_added}
use Rattle.whole_pictures.specs.WholePages.{heading_markup, reason_markup}
use Rattle.whole_pictures.proofs.section.Saying.append.Goals as goal

pub returns : goal.returns
returns c =
    let saying = c.args.self.now in
    let together = c.args.together.now in
    let heading = heading_markup saying.number saying.halls together in
    let reason = reason_markup saying.links.targets.now saying.links.calls.now together saying.why.now in
    let showing = showing_markup saying.around c.args.picture.now in
    let opened = c.append_opening.new.page.items in
    let headed = c.append_heading.new.page.items in
    let said = c.append_reason.new.page.items in
    let shown = c.append_showing.new.page.items in
    on_ok_weaker c.append_closing.result
    (element_added tag.Section _ (both heading (both reason showing)) c.args.page.now.items opened shown _
    (rw c.found_class.ensures at c.in_ok-append_opening.ensures)
    (both_added heading (both reason showing) opened headed shown c.in_ok-append_heading.ensures
    (both_added reason showing headed said shown c.in_ok-append_reason.ensures c.in_ok-append_showing.ensures))) c.append_closing.ensures
