use Rattle.std.proofs.Common.{◌∷◌, [], length, arith, ap}
use Rattle.std.proofs.lemmas.List.Sums.{sum_by-append}
use Rattle.recorder.specs.declared.order.KeyOrder.{KeyOrder}
use Rattle.file_format.proofs.PieceByPiece.{joined_more}
use Rattle.history_file.specs.Making.{MakesOrders}
use Rattle.history_file.proofs.order_format.OrdersBody.follow.Goals as goal

pub returns-clause-follows : goal.returns-clause-follows
returns-clause-follows c = λ header pieces made fits counted.
    let piece = c.args.piece in
    let before : MakesOrders header pieces (record { orders = c.self.inside.orders; calls = c.self.inside.calls }) = rw (← c.self.view_is) at made in
    let grown = sum_by-append (λ (p : KeyOrder). length p.order) pieces (piece ∷ []) in
    let count = ap length c.calls-count.ensures in (
      omega (arith, grown, count, before.counted, c.if-count-self.false),
      record {
        joined = joined_more pieces piece c.self.inside.orders c.join.new.orders before.joined c.in_ok-join.ensures;
        counted = omega (arith, grown, count, before.counted);
      },
    )
