use Rattle.std.proofs.Common.{List, subst, sym}
use Rattle.recorder.specs.declared.order.KeyOrder.{KeyOrder}
use Rattle.file_format.specs.OrderFormat.{order_format, AreJoined, MakesJoined}
use Rattle.file_format.proofs.Once.{reads_once}
use Rattle.file_format.proofs.OneOrder.{joined_once}
use Rattle.file_format.proofs.laws.bytes_are_read_as_one_list_of_orders.Goals as goal

pub returns : goal.returns
returns c = λ bytes a b h k.
    let P : List KeyOrder → Type 0 = λ pieces. AreJoined pieces b in
    joined_once h.items a b h.made (subst P (sym (reads_once order_format MakesJoined bytes a b h k)) k.made)
