use Rattle.std.proofs.Common.{◌<◌, length, get_or, arith}
use Rattle.std.proofs.lemmas.Option.{slice_get-get_or}
use Rattle.scenes.specs.declared.scene.Bar.{Bar}
use Rattle.scenes.proofs.OrderDots.{dots_more, dots_none, AreDotsOf-all}
use Rattle.scenes.proofs.Rising.{rises_from}
use Rattle.scenes.proofs.dots.dots_of.Goals as goal
use Rattle.scenes.proofs.dots.dots_of.Goals.{in-Some+in_ok-push, in_default}

pub loop-number-preserved : goal.loop-number-preserved
loop-number-preserved c =
    let order = c.args.order.now in
    let points = c.args.points.now in
    let bars = c.args.bars.now in
    let n = c.loop-number.number in
    let in_order : n < length order = omega (arith, c.loop-number-test.true, c.min-number-end.ensures) in
    let in_points : n < length points = omega (arith, c.loop-number-test.true, c.min-number-end.ensures) in
    let op = get_or order n (record { 0 = 0 }) in
    let at_order = slice_get-get_or order n (record { 0 = 0 }) in_order in
    let at_points = slice_get-get_or points n 0 in_points in
    let up = rises_from (λ (bar : Bar). bar.call.0) bars c.requires in
    elim c.match-bar_of.branch [
      | in-Some+in_ok-push w ↦ rw w.dots-is
          (dots_more order points bars up n w.in-Some.bar (get_or points n 0) op c.loop-number.dots.items _ at_order at_points
          w.in-Some.ensures.found w.in_ok-push.ensures.items c.loop-number.invariant)
      | in_default w ↦ rw w.dots-is
          (dots_none order points bars n op c.loop-number.dots.items at_order w.in_default.ensures.none c.loop-number.invariant)
    ]

pub returns : goal.returns
returns c =
    AreDotsOf-all c.args.order.now c.args.points.now c.args.bars.now c.loop-number.number c.loop-number.dots.items
    (λ j in_order in_points. omega (arith, c.loop-number-test.false, c.min-number-end.ensures)) c.loop-number.invariant
