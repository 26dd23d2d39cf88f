-- Orders by key.
use Rattle.std.specs.Prelude.{ℕ, List}
use Rattle.recorder.specs.declared.order.KeyOrder.{KeyOrder}

-- each key's order, and how many calls they have together
pub record KeyedOrders : Type 0 where
  pub orders : List KeyOrder
  pub calls : ℕ
