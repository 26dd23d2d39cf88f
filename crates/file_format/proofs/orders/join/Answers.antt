use Rattle.std.proofs.Common.{◌<◌, inl, inr, refl, sym, ◌∙◌, ap, List, ◌++◌, length, arith}
use Rattle.std.proofs.lemmas.Option.{slice_get_read}
use Rattle.std.proofs.lemmas.Result.{on_ok_weaker}
use Rattle.tag.specs.declared.numbers.OpId.{OpId}
use Rattle.recorder.specs.declared.order.KeyOrder.{KeyOrder}
use Rattle.file_format.proofs.OrdersByNumber.{keys_stay, key_added, extends_order, begins_order}
use Rattle.file_format.proofs.orders.join.Goals as goal

pub invariant_of-orders-then-place-len : goal.invariant_of-orders-then-place-len
invariant_of-orders-then-place-len c =
    let os = c.orders.inside.list.items in
    let place = c.in_ok-place.place in
    let one = c.index_mut.result.now in
    let numbered = rw c.orders.invariant at c.in_ok-place.ensures.ok in
    let below : place < length os = omega (arith, c.if-place-len.true, c.len.ensures, ap length c.reserve.ensures.items) in
    let stored = slice_get_read os (length os) place one refl below (rw c.reserve.ensures.items at c.index_mut.ensures.value) in
    rw c.reserve.ensures.items (keys_stay os c.in_ok-key.key place c.number.new.self one c.append.new.order numbered stored)

pub returns-then-place-len : goal.returns-then-place-len
returns-then-place-len c =
    let os = c.orders.inside.list.items in
    let piece : KeyOrder = record { key = c.piece.inside.texts.key; order = c.piece.inside.order } in
    let place = c.in_ok-place.place in
    let one = c.index_mut.result.now in
    let numbered = rw (c.orders.invariant, c.in_ok-key.ensures) at c.in_ok-place.ensures.ok in
    let below : place < length os = omega (arith, c.if-place-len.true, c.len.ensures, ap length c.reserve.ensures.items) in
    let stored = slice_get_read os (length os) place one refl below (rw c.reserve.ensures.items at c.index_mut.ensures.value) in
    rw (c.reserve.ensures.items, sym c.orders.view_is, sym c.piece.view_is)
    (on_ok_weaker c.append.result
    (λ longer. inl (extends_order os piece place c.number.new.self one c.append.new.order numbered stored (longer
    ∙ ap (λ (l : List OpId). one.order ++ l) c.as_slice.ensures))) c.append.ensures)

pub invariant_of-orders-2 : goal.invariant_of-orders-2
invariant_of-orders-2 c =
    let os = c.orders.inside.list.items in
    let place = c.in_ok-place.place in
    let numbered = rw c.orders.invariant at c.in_ok-place.ensures.ok in
    let new : place < length os → ⊥ = λ below. omega (arith, below, c.if-place-len.false, c.len.ensures, ap length c.reserve.ensures.items) in
    rw (c.in_ok-push.ensures.items, c.reserve.ensures.items)
    (key_added os c.in_ok-key.key place c.number.new.self c.piece.inside.order numbered new)

pub returns : goal.returns
returns c =
    let os = c.orders.inside.list.items in
    let piece : KeyOrder = record { key = c.piece.inside.texts.key; order = c.piece.inside.order } in
    let place = c.in_ok-place.place in
    let numbered = rw (c.orders.invariant, c.in_ok-key.ensures) at c.in_ok-place.ensures.ok in
    let new : place < length os → ⊥ = λ below. omega (arith, below, c.if-place-len.false, c.len.ensures, ap length c.reserve.ensures.items) in
    rw (c.in_ok-push.ensures.items, c.reserve.ensures.items, c.in_ok-key.ensures, sym c.orders.view_is, sym c.piece.view_is)
    (inr (begins_order os piece place c.number.new.self numbered new))
