use Rattle.std.proofs.Common.{ℕ, List, map, ap, sym, ◌∙◌, subst}
use Rattle.recorder.specs.declared.part.Call.{Call}
use Rattle.linearization_points.proofs.RunningPoints.{apart}
use Rattle.witness_order.specs.RecordOrders.{AreOrdersOf}
use Rattle.store_orders.specs.StoreOrders.{IsStoreOrder}
use Rattle.store_orders.specs.Turns.{AreTurns}
use Rattle.store_orders.proofs.Merged.{op_of}
use Rattle.store_orders.proofs.OfOrders.{store_of, turns_of}
use Rattle.store_orders.proofs.TimedOrders.{share_none}
use Rattle.store_orders.proofs.one_order.store_order.Goals as goal

pub sorted_calls-requires-clause-apart : goal.sorted_calls-requires-clause-apart
sorted_calls-requires-clause-apart c = λ key part there. apart c.args.history.now.rows key part (c.in_ok-parts.ensures.each key part there)

pub sorted_calls-requires-clause-numbers : goal.sorted_calls-requires-clause-numbers
sorted_calls-requires-clause-numbers c =
    share_none c.args.history.now.rows c.row_count-formed.ensures.formed c.in_ok-parts.parts.entries c.in_ok-parts.ensures

pub returns-clause-order : goal.returns-clause-order
returns-clause-order c =
    let rows = c.args.history.now.rows in
    let made = store_of rows c.row_count-formed.ensures.formed c.in_ok-parts.parts.entries c.in_ok-parts.ensures
    (c.a_part_is_one_list.ensures rows) c.args.orders.now c.in_ok-calls.calls.items c.in_ok-calls.ensures in
    subst (IsStoreOrder rows) (sym (c.in_ok-numbers.ensures ∙ ap (map op_of) c.deref.ensures.value)) made

pub returns-clause-turns : goal.returns-clause-turns
returns-clause-turns c =
    let rows = c.args.history.now.rows in
    let orders = c.args.orders.now in
    let parts = c.in_ok-parts.parts.entries in
    let same = c.the_parts_are_one_list.ensures rows c.requires.0 parts c.requires.1 c.in_ok-parts.ensures in
    let given = subst (λ (p : List (List ℕ × List Call)). AreOrdersOf p orders) same c.requires.2 in
    let made = turns_of rows c.row_count-formed.ensures.formed parts c.in_ok-parts.ensures (c.a_part_is_one_list.ensures rows) orders
    c.in_ok-calls.calls.items c.in_ok-calls.ensures given in
    subst (AreTurns rows orders) (sym (c.in_ok-numbers.ensures ∙ ap (map op_of) c.deref.ensures.value)) made
