use Rattle.value_order.proofs.SortLists.{index_within, numbers_all}
use Rattle.value_order.proofs.keys.sorted_order.Goals as goal

pub numbers-requires : goal.numbers-requires
numbers-requires c = rw c.as_slice.ensures.value (index_within c.args.part.now c.args.sources.now c.args.zones.now c.in_ok-keys.keys.items c.requires.sources c.in_ok-keys.ensures)

pub returns : goal.returns
returns c =
    let numbers = rw c.as_slice.ensures.value at c.in_ok-numbers.ensures in
    rw c.from_vec.ensures (numbers_all c.args.part.now c.attest.ensures c.args.sources.now c.args.zones.now c.in_ok-keys.keys.items _ c.requires.sources c.in_ok-keys.ensures numbers)
