use Rattle.std.proofs.Common.{refl, subst, arith}
use Rattle.std.proofs.lemmas.List.{take_all}
use Rattle.parallel_keys.specs.CheckedKeys.{AreDistinct}
use Rattle.parallel_keys.proofs.Apart.{apart_none, apart_more, met_before}
use Rattle.parallel_keys.proofs.distinct.are_distinct.Goals as goal

pub loop-place-init : goal.loop-place-init
loop-place-init c = apart_none c.args.orders.now 0 c.new-keys.result refl c.new-keys.ensures

pub loop-place-preserved : goal.loop-place-preserved
loop-place-preserved c =
    let numbered = rw (← c.index-orders-place.is) at c.in_ok-number.ensures.ok in
    apart_more c.args.orders.now c.loop-place.place c.index-orders-place.result c.loop-place.keys c.number.new.self c.in_ok-number.field-0 c.loop-place-test.true c.index-orders-place.is
    c.loop-place.invariant numbered c.if-branch-place.false

pub returns-then-branch-place : goal.returns-then-branch-place
returns-then-branch-place c = (
  λ h. absurd (cc),
  λ distinct.
      let numbered = rw (← c.index-orders-place.is) at c.in_ok-number.ensures.ok in
      absurd (met_before c.args.orders.now c.loop-place.place c.index-orders-place.result c.loop-place.keys c.number.new.self c.in_ok-number.field-0 c.loop-place-test.true c.index-orders-place.is
      c.loop-place.invariant numbered c.if-branch-place.true distinct),
)

pub returns : goal.returns
returns c =
    let whole = take_all c.loop-place.place c.args.orders.now (omega arith) in (
      λ h. subst AreDistinct whole c.loop-place.invariant.apart,
      λ distinct. refl,
    )
