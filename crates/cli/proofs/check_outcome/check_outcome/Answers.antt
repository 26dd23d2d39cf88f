-- What is said of the verdicts, said of every key.
use Rattle.std.proofs.Common.{subst, sym}
use Rattle.cli.specs.declared.outcome.Found.{Found}
use Rattle.std.proofs.lemmas.Result.{err_from_is_err_and}
use Rattle.parallel_keys.specs.CheckedKeys.{all_parts}
use Rattle.cli.proofs.Endings.{keys_stop}
use Rattle.cli.proofs.EachKey.{status_is}
use Rattle.cli.proofs.HallParts.{have_parts}
use Rattle.cli.proofs.Told.{lines_said}
use Rattle.cli.specs.Checks.{IsStatusOf}
use Rattle.cli.specs.Outcomes.{ended}
use Rattle.cli.proofs.check_outcome.check_outcome.Goals as goal

pub returns-in_err-checked-clause-stops : goal.returns-in_err-checked-clause-stops
returns-in_err-checked-clause-stops g c =
    let p = err_from_is_err_and c.from_residual.result c.from_residual.ensures.1 in
    rw (p.1, p.2) (keys_stop c.args.workers _ c.in_err-checked.ensures)

pub returns-clause-made : goal.returns-clause-made
returns-clause-made g c =
    let are = c.in_ok-checked.ensures in
    let lawful = c.attest.ensures in
    let halls = c.args.histories.now.halls in
    let verdicts = c.in_ok-checked.checked.items in
    record {
      is = λ pieces joined. subst (λ (found : Found). IsStatusOf halls pieces (ended found)) (sym c.of_text.ensures.found)
          (status_is halls (all_parts are.parts) (have_parts halls are.parts are.recorded lawful.count.least lawful.keys) pieces c.args.orders.now verdicts joined are.checked (ended c.found_in.result)
          (rw c.as_slice-verdicts.ensures.value at c.found_in.ensures));
      lines = λ pieces joined. rw c.of_text.ensures.text
          (lines_said c.args.form halls pieces c.args.orders.now verdicts c.in_ok-text.text.items joined are (rw c.as_slice-verdicts.ensures.value at c.in_ok-text.ensures));
      quiet = c.of_text.ensures.notes;
    }
