use Rattle.split_rows.proofs.Orders.{of_source, renumbered}
use Rattle.split_rows.proofs.laws.a_moved_part_has_the_same_orders.Goals as goal

pub returns : goal.returns
returns c number part moved order m = (
  of_source number part moved m order,
  λ s. renumbered number part moved m s.0 order s.1 s.2,
)
