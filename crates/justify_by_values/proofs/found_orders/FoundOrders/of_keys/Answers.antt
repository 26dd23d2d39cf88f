use Rattle.std.proofs.Common.{◌+◌, map, take}
use Rattle.parallel_keys.proofs.Fronts.{mapped_more}
use Rattle.parallel_keys.specs.KeysToCheck.{what_of}
use Rattle.justify_by_values.specs.Decided.{DecidedKey}
use Rattle.justify_by_values.proofs.Gathering.{decided_more, gathered_more}
use Rattle.justify_by_values.proofs.found_orders.FoundOrders.of_keys.Goals as goal

pub loop-one-preserved : goal.loop-one-preserved
loop-one-preserved c =
    let keys = c.args.keys.now in
    let i = c.loop-one.one-index in
    let one = what_of c.one-item.result in
    let so_far = c.loop-one.invariant in
    let key : DecidedKey = record { one = one; decided = c.in_ok-decide_key.field-0 } in (
      _,
      decided_more (map what_of (take i keys)) (map what_of (take (i + 1) keys)) so_far.0 key (mapped_more what_of keys i c.one-item.result c.loop-one-test.true c.one-item.is) c.in_ok-decide_key.ensures so_far.1,
      gathered_more so_far.0 key _ _ so_far.2 c.in_ok-add.ensures,
    )
