use Rattle.std.proofs.lemmas.Result.{on_ok_weaker}
use Rattle.markup.specs.declared.names.Element.TheVariants as tag
use Rattle.draw_command.proofs.Adding.{element_added}
use Rattle.draw_command.proofs.section.Saying.append.Goals as goal

pub returns : goal.returns
returns c =
    on_ok_weaker c.append_closing.result
    (element_added tag.Section _ _ c.args.page.now.items c.append_opening.new.page.items c.append_said.new.page.items _
    (rw c.verdict_class.ensures at c.in_ok-append_opening.ensures) (rw c.is_folded-folded.ensures at c.in_ok-append_said.ensures)) c.append_closing.ensures
