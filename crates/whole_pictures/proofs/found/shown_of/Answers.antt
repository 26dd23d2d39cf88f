use Rattle.whole_pictures.proofs.found.shown_of.Goals as goal

pub one_order-requires : goal.one_order-requires
one_order-requires c = rw c.deref.ensures.value (rw c.in-Ordered.is at c.requires)

pub returns-in-Ordered : goal.returns-in-Ordered
returns-in-Ordered c = record {
  shown = rw c.in-Ordered.is (rw c.deref.ensures.value at c.one_order.ensures.shown);
  points = c.one_order.ensures.points;
}
