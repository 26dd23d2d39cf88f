-- Calls that are atomic are neither refused nor undecided.
use Rattle.std.proofs.Common.{subst}
use Rattle.judged_keys.specs.FoundOrders.{IsKeyDecision}
use Rattle.draw_command.proofs.FoundOrders.{is_order, not_refuted, not_undecided}
use Rattle.draw_command.proofs.key_scene.found_order.Goals as goal

pub unreachable-requires : goal.unreachable-requires
unreachable-requires c =
    let part = c.args.part.now in
    not_refuted part c.in-NotAtomic.field-0 c.requires (subst (IsKeyDecision part) c.in-NotAtomic.is c.in_ok-order.ensures)

pub unreachable-requires-in-Undecided : goal.unreachable-requires-in-Undecided
unreachable-requires-in-Undecided c =
    let part = c.args.part.now in
    not_undecided part c.in-Undecided.field-0 c.requires (subst (IsKeyDecision part) c.in-Undecided.is c.in_ok-order.ensures)

pub returns : goal.returns
returns c =
    let part = c.args.part.now in
    let found = subst (IsKeyDecision part) c.in-Atomic.is c.in_ok-order.ensures in
    record { found = found; order = is_order part c.in-Atomic.order found }
