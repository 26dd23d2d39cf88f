use Rattle.std.proofs.Common.{◌≡◌, Option, not, false, sym, subst, ◌∙◌, ap, arith}
use Rattle.std.specs.Option.{is_some}
use Rattle.std.proofs.lemmas.Option.{same_Some}
use Rattle.recorder.specs.declared.part.Call.{Call}
use Rattle.tag.specs.Tags.{Tag}
use Rattle.witness_order.specs.Notes.{IsLeastUnnoted}
use Rattle.tag.proofs.Options.{none_from_is_some, some_from_is_some}
use Rattle.witness_order.proofs.Unnoted.{noted_more, noted_all, least_unnoted, not_completed, answered}
use Rattle.witness_order.proofs.tag_order.first_unnoted.Goals as goal
use Rattle.witness_order.proofs.tag_order.first_unnoted.Goals.{else-is_some-via-then-is_some+else-is_none, else-is_some-via-else-is_some}

pub returns-then-is_none-clause-first : goal.returns-then-is_none-clause-first
returns-then-is_none-clause-first c =
    let calls = c.args.part.now in
    let n = c.loop-k.k in
    let of = c.state-state.ensures in
    let call = of.0 in
    let listed = c.op.ensures in
    let done = some_from_is_some call.response (sym (answered call c.state-state.result.response of.2.response) ∙ (sym c.is_some.ensures ∙ c.if-is_some.true)) in
    let none : is_some c.state-state.result.note ≡ false = c.is_none.ensures ∙ ap not c.if-is_none.true in
    let same : call ≡ listed.0 = same_Some call listed.0 (sym of.1 ∙ listed.1) in
    subst (IsLeastUnnoted calls) (ap (λ (x : Call). x.op) same ∙ sym listed.2)
    (least_unnoted calls c.len-k-end.ensures.sequence n call of.1 done (sym of.2.note ∙ none_from_is_some c.state-state.result.note none) c.loop-k.invariant)

pub loop-k-preserved : goal.loop-k-preserved
loop-k-preserved c =
    let calls = c.args.part.now in
    let of = c.state-state.ensures in
    let call = of.0 in
    elim c.else-is_some.branch [
      | else-is_some-via-then-is_some+else-is_none w ↦ noted_more calls c.loop-k.k call of.1 (λ done. some_from_is_some call.note (ap (λ (t : Option Tag). is_some t) (sym of.2.note) ∙ (w.is_none.ensures ∙ ap not w.if-is_none.false))) c.loop-k.invariant
      | else-is_some-via-else-is_some w ↦ noted_more calls c.loop-k.k call of.1 (λ done. absurd (not_completed call (sym (answered call c.state-state.result.response of.2.response) ∙ (sym c.is_some.ensures ∙ w.if-is_some.false)) done)) c.loop-k.invariant
    ]

pub returns-clause-first : goal.returns-clause-first
returns-clause-first c = noted_all c.args.part.now c.loop-k.k (omega (arith, c.loop-k-test.false, c.len-k-end.ensures.count)) c.loop-k.invariant
