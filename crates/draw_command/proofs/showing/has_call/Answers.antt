use Rattle.std.proofs.Common.{◌≡◌, ◌==◌, List, arith, false, ap, subst, sym, ◌∙◌}
use Rattle.std.proofs.lemmas.List.{take_all}
use Rattle.tag.specs.declared.numbers.OpId.{OpId}
use Rattle.recorder.specs.declared.part.Call.{Call}
use Rattle.draw_command.proofs.Looking.{none_more, one_at}
use Rattle.draw_command.specs.Pages.{has_call}
use Rattle.draw_command.proofs.showing.has_call.Goals as goal

pub loop-place-preserved : goal.loop-place-preserved
loop-place-preserved c =
    let at = c.op.ensures in
    none_more (λ (call : Call). call.op.0 == c.args.number) c.args.part.now c.loop-place.place at.0 at.1
    (ap (λ (op : OpId). op.0 == c.args.number) (sym at.2) ∙ sym c.has_number.ensures ∙ c.if-has_number.false) c.loop-place.invariant

pub returns-then-has_number : goal.returns-then-has_number
returns-then-has_number c =
    let at = c.op.ensures in
    sym (one_at (λ (call : Call). call.op.0 == c.args.number) c.args.part.now c.loop-place.place at.0 at.1
    (ap (λ (op : OpId). op.0 == c.args.number) (sym at.2) ∙ sym c.has_number.ensures ∙ c.if-has_number.true))

pub returns : goal.returns
returns c =
    sym (subst (λ (l : List Call). has_call l c.args.number ≡ false) (take_all c.loop-place.place c.args.part.now (omega (arith, c.len-place-end.ensures, c.loop-place-test.false, c.loop-place.auto.place-end)))
    c.loop-place.invariant)
