use Rattle.std.proofs.Common.{◌<◌, ◌++◌, ◌∷◌, [], List, length, get_or, append_assoc, refl, ap, ◌∙◌, arith}
use Rattle.std.proofs.lemmas.Option.{slice_get-get_or}
use Rattle.tag.proofs.Lists.{item_at}
use Rattle.store_orders.specs.declared.timed_calls.TimedCall.{TimedCall}
use Rattle.store_orders.proofs.AddedCalls.{first_more}
use Rattle.store_orders.proofs.timed_calls.add_calls.Goals as goal

pub loop-index-preserved : goal.loop-index-preserved
loop-index-preserved c =
    let order = c.args.order.now in
    let points = c.in_ok-points.points.items in
    let n = c.loop-index.index in
    let before = c.loop-index.invariant in
    let call : TimedCall = record { point = c.index-point.result.now; index = n; op = get_or order n (record { 0 = 0 }) } in
    let listed = slice_get-get_or order n (record { 0 = 0 }) c.loop-index-test.true in
    let within : n < length points = omega (arith, c.in_ok-points.ensures.all, c.loop-index-test.true) in
    let placed = item_at points n c.index-point.result.now within c.index-point.ensures in
    let added = ap (λ (l : List TimedCall). l ++ call ∷ []) before.2 ∙ append_assoc c.args.calls.now.items before.0 (call ∷ []) in (
      before.0 ++ call ∷ [],
      first_more order points n before.0 call refl listed placed before.1,
      c.in_ok-push.ensures.items ∙ added,
    )
