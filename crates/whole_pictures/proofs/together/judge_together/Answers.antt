-- The keys are judged in turn.
use Rattle.std.proofs.Common.{List, [], map, sym, refl, subst, ◌∙◌, arith}
use Rattle.std.specs.List.{AllZip}
use Rattle.std.proofs.lemmas.List.{length-map}
use Rattle.recorder.specs.declared.order.KeyOrder.{KeyOrder}
use Rattle.parallel_keys.specs.KeysToCheck.{what_of}
use Rattle.whole_pictures.specs.Together.{IsOwnOrder}
use Rattle.whole_pictures.proofs.Judging.{all_ordered, next_key, none_refused, one_more}
use Rattle.whole_pictures.proofs.together.judge_together.Goals as goal

pub loop-one-init : goal.loop-one-init
loop-one-init c = record {
  taken = λ i one below at. absurd (omega (arith, below));
  so_far = (
    subst (λ (orders : List KeyOrder). AllZip (IsOwnOrder c.args.judged) [] orders) (sym c.in_ok-orders.ensures.items) tt,
    λ i one below at. absurd (omega (arith, below)),
  );
}

pub loop-one-preserved : goal.loop-one-preserved
loop-one-preserved c =
    let keys = c.args.keys.now in
    let i = c.loop-one.one-index in
    let one = c.one-item.result in
    one_more c.args.judged (map what_of keys) i c.loop-one.orders.items (what_of one) c.in_ok-finding.finding
    (next_key keys i one c.loop-one-test.true c.one-item.is) c.in_ok-finding.ensures (sym c.is_refused.ensures ∙ c.if-is_refused.false)
    c.in_ok-own.own _ c.loop-one.undecided c.in_ok-undecided.undecided c.keep.new.orders.items c.in_ok-undecided.ensures.some
    c.in_ok-undecided.ensures.none refl c.in_ok-own.ensures.some c.in_ok-own.ensures.none c.loop-one.invariant

pub returns-then-is_refused : goal.returns-then-is_refused
returns-then-is_refused c =
    let keys = c.args.keys.now in
    let i = c.loop-one.one-index in
    let all = c.in_ok-all.ensures in (
      record {
        place = i;
        there = next_key keys i c.one-item.result c.loop-one-test.true c.one-item.is;
        found = c.in_ok-finding.ensures;
        is = sym c.is_refused.ensures ∙ c.if-is_refused.true;
        none_before = c.loop-one.invariant.taken;
      },
      (all.all, all.judged_are, all.refused),
    )

pub returns-in-None : goal.returns-in-None
returns-in-None c =
    let keys = c.args.keys.now in
    let long = length-map keys what_of in
    all_ordered c.args.judged (map what_of keys) c.loop-one.one-index c.loop-one.orders.items (omega (arith, long, c.loop-one-test.false))
    (rw c.in-None.is at c.loop-one.invariant)

pub returns : goal.returns
returns c =
    let keys = c.args.keys.now in
    let long = length-map keys what_of in
    let so_far = rw c.in-Some.is at c.loop-one.invariant in (
      so_far.so_far,
      none_refused c.args.judged (map what_of keys) c.loop-one.one-index c.loop-one.orders.items _ (omega (arith, long, c.loop-one-test.false)) so_far,
    )
