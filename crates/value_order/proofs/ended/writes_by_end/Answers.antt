use Rattle.std.proofs.Common.{length, arith}
use Rattle.value_order.proofs.StaleTables.{by_end}
use Rattle.value_order.proofs.ended.writes_by_end.Goals as goal

pub returns : goal.returns
returns c =
    let part = c.args.part.now in
    by_end part (length part) c.in_ok-keys.keys.items c.sort_unstable.new.self.items (omega arith) c.in_ok-keys.ensures c.sort_unstable.ensures.permutation c.sort_unstable.ensures.sorted
