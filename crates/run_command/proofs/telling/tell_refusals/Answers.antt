use Rattle.std.proofs.Common.{List, ◌+◌, ◌≡◌, ◌∷◌, ap, drop, subst, sym, ◌∙◌}
use Rattle.std.proofs.lemmas.List.{drop_more}
use Rattle.load_run.specs.declared.load_run.Refused.{Refused}
use Rattle.run_command.specs.Messages.{ReceivesLines, refusal_lines}
use Rattle.run_command.proofs.Saying.{between}
use Rattle.run_command.proofs.telling.tell_refusals.Goals as goal

-- one line more is said, and the lines after it are still to come
pub loop-refused-preserved : goal.loop-refused-preserved
loop-refused-preserved g c = λ now failures behind.
    let at = c.loop-refused in
    let refusals = c.args.refusals.now in
    let one = c.refused-item.result in
    let rest = drop (at.refused-index + 1) refusals in
    let ahead : drop at.refused-index refusals ≡ one ∷ rest = drop_more refusals at.refused-index one c.loop-refused-test.true ∙ ap (λ (r : Refused). r ∷ rest) (sym c.refused-item.is) in
    let P : List Refused → Type 0 = λ l. ReceivesLines (between (g.E.Write.contents at.errors) now (g.E.Counted.failures at.errors) failures) (refusal_lines l) in
    at.invariant now failures (subst P (sym ahead) (g.E.Write.contents c.tell_refused.new.errors, g.E.Counted.failures c.tell_refused.new.errors, c.tell_refused.ensures, behind))
