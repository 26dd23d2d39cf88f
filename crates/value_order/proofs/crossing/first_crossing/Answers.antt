use Rattle.std.proofs.Common.{ℕ, ◌≡◌, inl, inr, sym, ◌∙◌, subst, arith}
use Rattle.std.proofs.lemmas.Bool.{cases_lt, false≢true}
use Rattle.std.proofs.lemmas.Option.{slice_get_within, slice_get-get_or}
use Rattle.value_order.specs.Zones.{CrossAt}
use Rattle.value_order.proofs.Crosses.{cross_at, crossed}
use Rattle.value_order.proofs.crossing.first_crossing.Goals as goal
use Rattle.value_order.proofs.crossing.first_crossing.Goals.{else-m-k-via-then-m-k+else-do_cross, else-m-k-via-else-m-k}

pub returns-then-do_cross : goal.returns-then-do_cross
returns-then-do_cross c = (
  cross_at c.args.zones.now c.args.k c.loop-m.m _ _ (λ e. c.if-m-k.true (sym e)) (slice_get-get_or c.args.zones.now c.args.k _ c.requires) (slice_get-get_or c.args.zones.now c.loop-m.m _ c.loop-m-test.true) (c.do_cross.ensures.0 c.if-do_cross.true),
  λ j h. elim (cases_lt j c.loop-m.m) [ inl less ↦ absurd (c.loop-m.invariant j less h) | inr le ↦ le ],
)

pub loop-m-preserved : goal.loop-m-preserved
loop-m-preserved c = λ j less h. elim (cases_lt j c.loop-m.m) [
  | inl l ↦ c.loop-m.invariant j l h
  | inr l ↦
      let here : j ≡ c.loop-m.m = omega arith in
      elim c.else-m-k.branch [
        | else-m-k-via-then-m-k+else-do_cross w ↦ false≢true (sym w.if-do_cross.false ∙ w.do_cross.ensures.1 (crossed c.args.zones.now c.args.k c.loop-m.m _ _ (slice_get-get_or c.args.zones.now c.args.k _ c.requires) (slice_get-get_or c.args.zones.now c.loop-m.m _ c.loop-m-test.true) (subst (λ (x : ℕ). CrossAt c.args.zones.now c.args.k x) here h)))
        | else-m-k-via-else-m-k w ↦ h.apart (sym (here ∙ w.if-m-k.false))
      ]
]

pub returns : goal.returns
returns c = λ m h. c.loop-m.invariant m (omega (arith, slice_get_within c.args.zones.now m h.b h.at_b, c.loop-m-test.false)) h
