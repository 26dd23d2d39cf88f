use Rattle.std.proofs.Common.{◌≡◌, List, arith, false, is_some, ap, subst, sym, ◌∙◌}
use Rattle.std.proofs.lemmas.List.{take_all}
use Rattle.recorder.specs.declared.part.Call.{Call}
use Rattle.cli.specs.Hints.{has_note}
use Rattle.cli.proofs.AnyNote.{none_more, one_at}
use Rattle.cli.proofs.notes.has_note.Goals as goal

pub loop-place-preserved : goal.loop-place-preserved
loop-place-preserved c =
    let state = c.state-state.ensures in
    none_more (λ (call : Call). is_some call.note) c.args.part.now c.loop-place.place state.0 state.1
    (ap is_some (sym state.2.note) ∙ sym c.is_some.ensures ∙ c.if-is_some.false) c.loop-place.invariant

pub returns-then-is_some : goal.returns-then-is_some
returns-then-is_some c =
    let state = c.state-state.ensures in
    sym (one_at (λ (call : Call). is_some call.note) c.args.part.now c.loop-place.place state.0 state.1
    (ap is_some (sym state.2.note) ∙ sym c.is_some.ensures ∙ c.if-is_some.true))

pub returns : goal.returns
returns c =
    sym (subst (λ (l : List Call). has_note l ≡ false) (take_all c.loop-place.place c.args.part.now (omega (arith, c.len-place-end.ensures, c.loop-place-test.false, c.loop-place.auto.place-end)))
    c.loop-place.invariant)
