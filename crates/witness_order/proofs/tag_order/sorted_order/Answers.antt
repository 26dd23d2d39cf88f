use Rattle.std.proofs.Common.{refl}
use Rattle.witness_order.proofs.tag_order.sorted_order.Goals as goal

pub returns : goal.returns
returns c = record {
  keys = c.in_ok-keys.keys.items;
  settled = c.in_ok-keys.ensures.settled;
  sorted = c.in_ok-keys.ensures.sorted;
  numbers = rw (c.from_vec.ensures, c.in_ok-numbers.ensures, c.deref.ensures.value) refl;
}
