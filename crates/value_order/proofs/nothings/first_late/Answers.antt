use Rattle.std.proofs.Common.{Some, refl, length, sym, ◌∙◌, ap, arith}
use Rattle.std.proofs.lemmas.Bool.{false≢true}
use Rattle.std.proofs.lemmas.Option.{slice_get_within}
use Rattle.recorder.specs.declared.part.Call.{Call}
use Rattle.tag_check.specs.Least.{HasPartner}
use Rattle.tag_check.proofs.Calls.{none_more, none_all}
use Rattle.value_order.specs.Faults.{IsLateNothing}
use Rattle.value_order.specs.Nothings.{IsFirstShown}
use Rattle.value_order.proofs.CallKinds.{call_at}
use Rattle.value_order.proofs.LateReads.{none_late, not_late, late_here, late_nothing}
use Rattle.value_order.proofs.nothings.first_late.Goals as goal

pub returns-in_err-shown : goal.returns-in_err-shown
returns-in_err-shown c = rw c.from_residual.ensures (none_late c.args.part.now c.in_err-shown.ensures)

pub op-call-requires : goal.op-call-requires
op-call-requires c =
    let first : IsFirstShown c.args.part.now (length c.args.part.now) (Some (c.in_ok-shown.shown, c.in_ok-shown.end)) = c.in_ok-shown.ensures in
    slice_get_within c.args.part.now c.in_ok-shown.shown first.0.call first.0.at

pub returns-then-is_late : goal.returns-then-is_late
returns-then-is_late c =
    let part = c.args.part.now in
    let first : IsFirstShown part (length part) (Some (c.in_ok-shown.shown, c.in_ok-shown.end)) = c.in_ok-shown.ensures in
    let h = c.is_late.ensures in
    let late = h.2.0 c.if-is_late.true in
    let read = c.op-read.ensures in
    let same = ap (λ (x : Call). x.op) (call_at part c.loop-i.i c.loop-i.i read.0 h.0 read.1 h.1 refl) in
    late_here part c.in_ok-shown.shown c.in_ok-shown.end first c.len-i-end.ensures.sequence c.loop-i.i h.0 c.op-read.result c.op-call.result h.1 late.0 late.1 c.loop-i.invariant (read.2 ∙ same) c.op-call.ensures

pub loop-i-preserved : goal.loop-i-preserved
loop-i-preserved c =
    let part = c.args.part.now in
    let first : IsFirstShown part (length part) (Some (c.in_ok-shown.shown, c.in_ok-shown.end)) = c.in_ok-shown.ensures in
    let h = c.is_late.ensures in
    none_more part (HasPartner part IsLateNothing) c.loop-i.i h.0 h.1 (λ p. not_late part c.in_ok-shown.shown c.in_ok-shown.end first h.0 (λ less. false≢true (sym c.if-is_late.false ∙ h.2.1 (late_nothing part h.0 p, less))) p) c.loop-i.invariant

pub returns : goal.returns
returns c = none_all c.args.part.now (HasPartner c.args.part.now IsLateNothing) c.loop-i.i (omega (arith, c.loop-i-test.false, c.len-i-end.ensures.count)) c.loop-i.invariant
