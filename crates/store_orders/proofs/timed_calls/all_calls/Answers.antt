use Rattle.std.proofs.Common.{List, ℕ, ◌∙◌, subst, sym}
use Rattle.std.proofs.lemmas.Option.{same_Some, slice_get_within}
use Rattle.tag.proofs.Lists.{item_at, Contains-slice_get}
use Rattle.tag.specs.declared.numbers.OpId.{OpId}
use Rattle.recorder.specs.Orders.{IsOrder}
use Rattle.recorder.specs.declared.part.Call.{Call}
use Rattle.store_orders.specs.TimedCalls.{AddsCalls}
use Rattle.store_orders.proofs.AddedCalls.{calls_more, calls_all, entry_at}
use Rattle.store_orders.proofs.timed_calls.all_calls.Goals as goal

pub entry-key-requires : goal.entry-key-requires
entry-key-requires c =
    let at = item_at c.args.orders.now c.loop-place.place c.index-orders-place.result c.loop-place-test.true c.index-orders-place.is in
    let entry = entry_at c.args.parts.now.entries c.args.orders.now c.requires.orders c.loop-place.place c.index-orders-place.result at in
    slice_get_within c.args.parts.now.entries c.loop-place.place entry.0 entry.1

pub add_calls-requires-clause-apart : goal.add_calls-requires-clause-apart
add_calls-requires-clause-apart c =
    let entry = c.entry-key.result in
    c.requires.apart entry.0 entry.1 (Contains-slice_get c.args.parts.now.entries c.loop-place.place entry c.entry-key.ensures)

pub add_calls-requires-clause-order : goal.add_calls-requires-clause-order
add_calls-requires-clause-order c =
    let at = item_at c.args.orders.now c.loop-place.place c.index-orders-place.result c.loop-place-test.true c.index-orders-place.is in
    let entry = entry_at c.args.parts.now.entries c.args.orders.now c.requires.orders c.loop-place.place c.index-orders-place.result at in
    let same = same_Some entry.0 c.entry-key.result (sym entry.1 ∙ c.entry-key.ensures) in
    subst (λ (order : List OpId). IsOrder c.entry-key.result.1 order) (sym c.as_slice.ensures)
    (subst (λ (part : List ℕ × List Call). IsOrder part.1 c.index-orders-place.result.order) same entry.2)

pub loop-place-preserved : goal.loop-place-preserved
loop-place-preserved c =
    let parts = c.args.parts.now.entries in
    let orders = c.args.orders.now in
    let n = c.loop-place.place in
    let own = c.index-orders-place.result in
    let at = item_at orders n own c.loop-place-test.true c.index-orders-place.is in
    let entry = entry_at parts orders c.requires.orders n own at in
    let same = same_Some entry.0 c.entry-key.result (sym entry.1 ∙ c.entry-key.ensures) in
    let is = subst (λ (part : List ℕ × List Call). IsOrder part.1 own.order) same entry.2 in
    let adds = subst (λ (order : List OpId). AddsCalls c.entry-key.result.1 order c.loop-place.calls.items c.add_calls.new.calls.items)
    c.as_slice.ensures c.in_ok-add_calls.ensures in
    calls_more parts orders c.requires.numbers n c.entry-key.result own c.loop-place.calls.items c.add_calls.new.calls.items
    c.entry-key.ensures at is adds c.loop-place.invariant

pub returns : goal.returns
returns c =
    calls_all c.args.parts.now.entries c.args.orders.now c.requires.orders c.loop-place.place c.loop-place.calls.items
    c.loop-place-test.false c.loop-place.invariant
