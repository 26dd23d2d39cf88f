use Rattle.std.proofs.Common.{ℕ, ◌+◌, Option, Some, sym, ◌∙◌, subst, arith}
use Rattle.std.proofs.lemmas.Bool.{false≢true}
use Rattle.std.proofs.lemmas.Option.{slice_get_within}
use Rattle.tag.proofs.Lists.{get_at}
use Rattle.value_order.specs.declared.classes.Class.TheVariants as class
use Rattle.value_order.specs.Classes.{IsWriteFrom}
use Rattle.value_order.specs.Ended.{IsLatestBefore, IsSlowest}
use Rattle.value_order.proofs.StaleReads.{read_of, not_without_latest, not_without_slowest, stale_with_next, not_preceding, preceding}
use Rattle.value_order.proofs.stale.overwriter.Goals as goal

pub returns-in_err-latest : goal.returns-in_err-latest
returns-in_err-latest c = rw c.from_residual.ensures (
    let r = c.requires in
    let h = read_of c.args.part.now c.args.classes.now r.classes c.args.i c.args.first r.inside r.read in
    (h.0, h.1, λ st. not_without_latest c.args.part.now r.sequence c.args.classes.now r.classes c.args.i c.args.first h.0 h.2 h.1 h.3 h.4 st (subst (λ (o : Option ℕ). IsLatestBefore c.args.part.now h.0.invoked o) c.in_err-latest.was (r.latest h.0 h.1))))

pub returns-in_err-slow : goal.returns-in_err-slow
returns-in_err-slow c = rw c.from_residual-in_err-slow.ensures (
    let r = c.requires in
    let h = read_of c.args.part.now c.args.classes.now r.classes c.args.i c.args.first r.inside r.read in
    (h.0, h.1, λ st. not_without_slowest c.args.part.now r.sequence c.args.classes.now r.classes c.args.i c.args.first h.0 h.2 h.1 h.3 h.4 st (subst (λ (o : Option ℕ). IsSlowest c.args.part.now c.args.classes.now c.args.first c.args.i o) c.in_err-slow.was r.slowest)))

pub begins_during-requires-clause-next : goal.begins_during-requires-clause-next
begins_during-requires-clause-next c n e =
    let w : IsWriteFrom c.args.classes.now (c.args.i + 1) c.args.first (Some n) = subst (λ (o : Option ℕ). IsWriteFrom c.args.classes.now (c.args.i + 1) c.args.first o) e c.requires.next in
    omega (arith, slice_get_within c.args.classes.now n (class.Writes c.args.first) w.1, c.requires.classes.all)

pub returns-then-begins_during : goal.returns-then-begins_during
returns-then-begins_during c =
    let r = c.requires in
    let call = get_at c.args.part.now c.args.i r.inside in
    (call.0, call.1, stale_with_next c.args.part.now r.sequence c.args.classes.now r.classes c.args.i c.args.first r.inside r.read c.args.next r.next call.0 call.1 (c.begins_during.ensures.0 c.if-begins_during.true))

pub precedes-requires-clause-first : goal.precedes-requires-clause-first
precedes-requires-clause-first c =
    let s : IsSlowest c.args.part.now c.args.classes.now c.args.first c.args.i (Some c.in_ok-slow.slow) = subst (λ (o : Option ℕ). IsSlowest c.args.part.now c.args.classes.now c.args.first c.args.i o) c.in_ok-slow.was c.requires.slowest in
    omega (arith, s.0, c.requires.inside)

pub precedes-requires-clause-second : goal.precedes-requires-clause-second
precedes-requires-clause-second c =
    let call = get_at c.args.part.now c.args.i c.requires.inside in
    let l : IsLatestBefore c.args.part.now call.0.invoked (Some c.in_ok-latest.latest) = subst (λ (o : Option ℕ). IsLatestBefore c.args.part.now call.0.invoked o) c.in_ok-latest.was (c.requires.latest call.0 call.1) in
    slice_get_within c.args.part.now c.in_ok-latest.latest l.0.1.write l.0.1.at

pub returns-then-precedes : goal.returns-then-precedes
returns-then-precedes c =
    let r = c.requires in
    let call = get_at c.args.part.now c.args.i r.inside in
    let s : IsSlowest c.args.part.now c.args.classes.now c.args.first c.args.i (Some c.in_ok-slow.slow) = subst (λ (o : Option ℕ). IsSlowest c.args.part.now c.args.classes.now c.args.first c.args.i o) c.in_ok-slow.was r.slowest in
    let l : IsLatestBefore c.args.part.now call.0.invoked (Some c.in_ok-latest.latest) = subst (λ (o : Option ℕ). IsLatestBefore c.args.part.now call.0.invoked o) c.in_ok-latest.was (r.latest call.0 call.1) in (
      call.0,
      call.1,
      preceding c.args.part.now r.sequence c.args.classes.now r.classes c.args.i c.args.first r.inside r.read c.args.next r.next c.in_ok-slow.slow c.in_ok-latest.latest s call.0 call.1 l
          (λ d. false≢true (sym c.if-begins_during.false ∙ c.begins_during.ensures.1 d)) (c.precedes.ensures.0 c.if-precedes.true),
    )

pub returns-else-precedes : goal.returns-else-precedes
returns-else-precedes c =
    let r = c.requires in
    let call = get_at c.args.part.now c.args.i r.inside in
    let s : IsSlowest c.args.part.now c.args.classes.now c.args.first c.args.i (Some c.in_ok-slow.slow) = subst (λ (o : Option ℕ). IsSlowest c.args.part.now c.args.classes.now c.args.first c.args.i o) c.in_ok-slow.was r.slowest in
    let l : IsLatestBefore c.args.part.now call.0.invoked (Some c.in_ok-latest.latest) = subst (λ (o : Option ℕ). IsLatestBefore c.args.part.now call.0.invoked o) c.in_ok-latest.was (r.latest call.0 call.1) in (
      call.0,
      call.1,
      not_preceding c.args.part.now r.sequence c.args.classes.now r.classes c.args.i c.args.first r.inside r.read c.args.next r.next c.in_ok-slow.slow c.in_ok-latest.latest s call.0 call.1 l
          (λ p. false≢true (sym c.if-precedes.false ∙ c.precedes.ensures.1 p)),
    )
