use Rattle.value_order.proofs.keys.sorted_keys.Goals as goal

pub returns : goal.returns
returns c = record {
  made = c.in_ok-keys.keys.items;
  are = c.in_ok-keys.ensures;
  moved = c.sort_unstable.ensures.permutation;
  sorted = c.sort_unstable.ensures.sorted;
}
