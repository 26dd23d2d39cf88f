use Rattle.std.proofs.Common.{◌%◌, length, arith}
use Rattle.tag.proofs.Lists.{item_at}
use Rattle.parallel_keys.specs.Checks.{orders_in, parts_in}
use Rattle.parallel_keys.proofs.Woven.{own_turn, own_verdict}
use Rattle.parallel_keys.proofs.weave_verdicts.verdict_at.Goals as goal

pub get-requires : goal.get-requires
get-requires c =
    let checks = c.args.checks in
    let k = length c.args.lists.now in
    let list = c.index-lists-index.result in
    let at = item_at c.args.lists.now (c.args.index % k) list (omega arith) c.index-lists-index.is in
    own_turn (parts_in checks) (orders_in checks) _ k c.args.index list c.requires.lists c.requires.below at

pub returns : goal.returns
returns c =
    let checks = c.args.checks in
    let k = length c.args.lists.now in
    let list = c.index-lists-index.result in
    let at = item_at c.args.lists.now (c.args.index % k) list (omega arith) c.index-lists-index.is in
    own_verdict (parts_in checks) (orders_in checks) _ k c.args.index list c.get.result c.requires.lists at c.get.ensures
