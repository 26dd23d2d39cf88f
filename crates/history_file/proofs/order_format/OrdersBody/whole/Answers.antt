use Rattle.std.proofs.Common.{List, sym, subst}
use Rattle.recorder.specs.declared.order.KeyOrder.{KeyOrder}
use Rattle.file_format.specs.OrderFormat.{AreJoined, MakesJoined, order_format}
use Rattle.history_file.specs.Making.{MakesOrders}
use Rattle.history_file.proofs.Bodies.{Reads-as}
use Rattle.history_file.proofs.order_format.OrdersBody.whole.Goals as goal

pub returns : goal.returns
returns c = λ bytes r.
    let joined = λ (header : Unit {0}) (pieces : List KeyOrder) (made : MakesOrders header pieces _). let P : List KeyOrder → Type 0 = λ list. AreJoined pieces list in subst P (sym c.into_list.ensures) made.joined in
    Reads-as order_format MakesOrders MakesJoined bytes _ c.into_list.result.items joined r
