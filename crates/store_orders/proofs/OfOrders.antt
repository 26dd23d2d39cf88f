-- What is made of given orders is an order of the store, and each of them is its key's turn.
use Rattle.std.proofs.Common.{ℕ, ◌≡◌, List, map, ap, sym, ◌∙◌, subst}
use Rattle.std.proofs.lemmas.Option.{same_Some}
use Rattle.tag.specs.declared.numbers.OpId.{OpId}
use Rattle.tag.proofs.Lists.{place_of}
use Rattle.recorder.specs.declared.order.KeyOrder.{KeyOrder}
use Rattle.recorder.specs.declared.row.Row.{Row}
use Rattle.recorder.specs.declared.part.Call.{Call}
use Rattle.recorder.specs.Histories.{IsWellFormed}
use Rattle.recorder.specs.Records.{AreParts, IsPart}
use Rattle.witness_order.specs.RecordOrders.{AreOrdersOf}
use Rattle.store_orders.specs.StoreOrders.{IsStoreOrder}
use Rattle.store_orders.specs.TimedCalls.{TimedOrder, AreSortedCalls}
use Rattle.store_orders.specs.Turns.{AreInTurn, AreTurns}
use Rattle.store_orders.specs.declared.timed_calls.TimedCall.{TimedCall}
use Rattle.store_orders.proofs.AddedCalls.{IsOrderOf}
use Rattle.store_orders.proofs.Merged.{IsOnePart, op_of, in_turn, merged}
use Rattle.store_orders.proofs.Sorted.{rising, moved_calls}
use Rattle.store_orders.proofs.TimedOrders.{own, own_part, zip_at, zip_back}

module _ (rows : List Row) (formed : IsWellFormed rows) (parts : List (List ℕ × List Call)) (of : AreParts rows parts) where
  module _ (one : IsOnePart rows) (orders : List KeyOrder) (calls : List TimedCall) (are : AreSortedCalls parts orders calls) where
    pub store_of : IsStoreOrder rows (map op_of calls)
    store_of =
        let a = are.are in
        let same = moved_calls a.all are.made calls are.moved a.calls_are in
        merged rows formed parts of a.all a.timed calls same (rising calls are.sorted) one

    pub turns_of : AreOrdersOf parts orders → AreTurns rows orders (map op_of calls)
    turns_of given = λ own_order part there is.
        let a = are.are in
        let k = place_of orders own_order there in
        let t = zip_at (λ (o : KeyOrder) (u : TimedOrder). o.order ≡ u.order) orders a.all a.given k.0 own_order k.1 in
        let mine = own rows formed parts of a.all a.timed k.0 t.0 t.1 in
        let entry = zip_back IsOrderOf parts orders given k.0 own_order k.1 in
        let same = same_Some mine.0 entry.0 (sym mine.1 ∙ entry.1) in
        let keys : t.0.key ≡ own_order.key = mine.2.key ∙ (ap (λ (p : List ℕ × List Call). p.0) same ∙ sym entry.2.0) in
        let its = subst (λ (key : List ℕ). IsPart rows key t.0.part) keys (own_part rows formed parts of a.all a.timed k.0 t.0 t.1) in
        let parts_same : t.0.part ≡ part = one own_order.key t.0.part part its is in
        let turn = in_turn rows formed parts of a.all a.timed calls (moved_calls a.all are.made calls are.moved a.calls_are)
        (rising calls are.sorted) k.0 t.0 t.1 in
        subst (λ (p : List Call). AreInTurn p (map op_of calls) own_order.order) parts_same
        (subst (λ (order : List OpId). AreInTurn t.0.part (map op_of calls) order) (sym t.2) turn)
