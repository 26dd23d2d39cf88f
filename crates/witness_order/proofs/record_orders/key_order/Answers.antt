use Rattle.std.proofs.Common.{Err, ap, ◌∙◌}
use Rattle.witness_order.proofs.SoundOrder.{IsOrder-by_tag}
use Rattle.witness_order.proofs.Unnoted.{none_unnoted}
use Rattle.witness_order.proofs.record_orders.key_order.Goals as goal

pub unreachable-requires : goal.unreachable-requires
unreachable-requires c =
    let op = c.in-Err-NoNote.field-0-0 in
    none_unnoted c.args.part.now op c.requires.noted ((c.order_of.ensures.no_note op).0 (c.in-Err-NoNote.is ∙ ap Err c.in-Err-NoNote.field-0-is))

pub returns-in_ok-copy-in-Ok : goal.returns-in_ok-copy-in-Ok
returns-in_ok-copy-in-Ok c =
    (c.in_ok-copy-in-Ok.ensures.copy, IsOrder-by_tag c.args.part.now c.in-Ok.order c.order_of.ensures.sequence c.requires c.in-Ok.ensures.order)
