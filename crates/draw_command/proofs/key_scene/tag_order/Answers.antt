-- Each completed call has a note, since the tags are sound.
use Rattle.std.proofs.Common.{Err, ap, sym, ◌∙◌}
use Rattle.tag.proofs.Options.{none_some}
use Rattle.witness_order.proofs.SoundOrder.{IsOrder-by_tag}
use Rattle.draw_command.proofs.key_scene.tag_order.Goals as goal

pub unreachable-requires : goal.unreachable-requires
unreachable-requires c =
    let left = (c.order_of.ensures.no_note c.in-Err-NoNote.field-0-0).0 (c.in-Err-NoNote.is ∙ ap Err c.in-Err-NoNote.field-0-is) in
    let noted = c.requires.noted left.call left.recorded left.completed in
    none_some (sym left.unnoted ∙ noted.1)

pub returns-in-Ok : goal.returns-in-Ok
returns-in-Ok c =
    let by_tag = rw c.in-Ok.is at c.order_of.ensures.order in
    record { by_tag = by_tag; order = IsOrder-by_tag c.args.part.now c.in-Ok.order c.order_of.ensures.sequence c.requires by_tag }
