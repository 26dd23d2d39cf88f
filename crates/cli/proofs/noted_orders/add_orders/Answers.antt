use Rattle.std.proofs.lemmas.List.{drop_all}
use Rattle.std.proofs.lemmas.Result.{err_from_is_err_and}
use Rattle.std.proofs.Common.{refl, arith, subst, List, ℕ}
use Rattle.cli.specs.declared.noted_orders.Unjustified.TheVariants.{Memory}
use Rattle.cli.specs.Justifications.{IsJustifiedOrder, IsUnjustified}
use Rattle.cli.proofs.Noted.{all_noted}
use Rattle.cli.proofs.Prefixes.{dropped_more, first_unjustified, justified_all, justified_more, justified_none}
use Rattle.cli.proofs.noted_orders.add_orders.Goals as goal

pub loop-place-init : goal.loop-place-init
loop-place-init c = λ before justified. justified_none before c.args.parts.now.entries c.args.parts.now.entries c.args.orders.now.items refl justified

pub loop-place-preserved : goal.loop-place-preserved
loop-place-preserved c = λ before justified.
    justified_more before c.args.parts.now.entries _ _ c.loop-place.orders.items c.push.new.self.items c.entry-key.result c.in_ok-checked_order.field-0
    (dropped_more c.args.parts.now.entries c.loop-place.place c.entry-key.result c.entry-key.ensures) c.in_ok-push.ensures.items (c.loop-place.invariant before justified) (subst (λ (k : List ℕ). IsJustifiedOrder (k, c.entry-key.result.1) c.in_ok-checked_order.field-0) c.key.ensures c.in_ok-checked_order.ensures.order)

pub returns-clause-orders : goal.returns-clause-orders
returns-clause-orders c = λ before justified.
    justified_all before c.args.parts.now.entries _ c.loop-place.orders.items (drop_all c.loop-place.place c.args.parts.now.entries (omega (arith, c.len-place-end.ensures, c.loop-place-test.false, c.loop-place.auto.place-end))) (c.loop-place.invariant before justified)

pub returns-in_err-checked_order-clause-refused : goal.returns-in_err-checked_order-clause-refused
returns-in_err-checked_order-clause-refused c =
    let p = err_from_is_err_and c.from_residual.result c.from_residual.ensures.1 in
    rw (p.1, p.2) (λ before behind justified.
    first_unjustified before c.args.parts.now.entries behind _ _ c.loop-place.orders.items c.entry-key.result c.in_err-checked_order.field-0.0 (dropped_more c.args.parts.now.entries c.loop-place.place c.entry-key.result c.entry-key.ensures) (c.loop-place.invariant before justified) (subst (λ (k : List ℕ). IsUnjustified (k, c.entry-key.result.1) c.in_err-checked_order.field-0.0) c.key.ensures c.in_err-checked_order.ensures.refused))

pub returns-in_err-push-clause-refused : goal.returns-in_err-push-clause-refused
returns-in_err-push-clause-refused c =
    let p = err_from_is_err_and c.from_residual-in_err-push.result c.from_residual-in_err-push.ensures.1 in
    let noted = all_noted c.entry-key.result.1 c.in_ok-checked_order.field-0.order c.in_ok-checked_order.ensures.order.by_tag in
    rw (p.1, p.2) (λ before behind justified.
    first_unjustified before c.args.parts.now.entries behind _ _ c.loop-place.orders.items c.entry-key.result Memory (dropped_more c.args.parts.now.entries c.loop-place.place c.entry-key.result c.entry-key.ensures) (c.loop-place.invariant before justified) noted)
