use Rattle.std.proofs.Common.{ℕ, inl, inr, refl, sym, ◌∙◌, subst, arith}
use Rattle.std.proofs.lemmas.Option.{same_Some}
use Rattle.value_order.specs.Ended.{EndsNoLater}
use Rattle.value_order.proofs.CallKinds.{has_place}
use Rattle.value_order.proofs.StaleTables.{ends_itself, ends_by}
use Rattle.value_order.proofs.stale.slower.Goals as goal

pub returns-in_default : goal.returns-in_default
returns-in_default c = record { is = inl refl; new = ends_itself c.args.part.now c.args.i; old = λ slow e. absurd (c.in_default.not-Some slow e) }

pub returns-then-other-end : goal.returns-then-other-end
returns-then-other-end c =
    let part = c.args.part.now in
    let a = c.places.ensures in
    let b = c.places-2.ensures in
    let p = has_place a.0 c.places.result.response c.in-Some-response.end a.2.response c.in-Some-response.is in
    let q = has_place b.0 c.places-2.result.response c.in-Some-response-2.other b.2.response c.in-Some-response-2.is in
    record {
      is = inl refl;
      new = ends_itself part c.args.i;
      old = λ s e. subst (λ (x : ℕ). EndsNoLater part x c.args.i) (same_Some c.in-Some.slow s (sym c.in-Some.is ∙ e)) (ends_by part c.in-Some.slow c.args.i a.0 b.0 p.0 q.0 a.1 b.1 p.1 q.1 (omega (arith, p.2, q.2, c.if-other-end.true)));
    }

pub returns-else-other-end : goal.returns-else-other-end
returns-else-other-end c =
    let part = c.args.part.now in
    let a = c.places.ensures in
    let b = c.places-2.ensures in
    let p = has_place a.0 c.places.result.response c.in-Some-response.end a.2.response c.in-Some-response.is in
    let q = has_place b.0 c.places-2.result.response c.in-Some-response-2.other b.2.response c.in-Some-response-2.is in
    record {
      is = inr c.in-Some.is;
      new = ends_by part c.args.i c.in-Some.slow b.0 a.0 q.0 p.0 b.1 a.1 q.1 p.1 (omega (arith, p.2, q.2, c.if-other-end.false));
      old = λ s e. subst (λ (x : ℕ). EndsNoLater part x c.in-Some.slow) (same_Some c.in-Some.slow s (sym c.in-Some.is ∙ e)) (ends_itself part c.in-Some.slow);
    }
