use Rattle.std.proofs.Common.{ℕ, ◌++◌, codes, sym, ap, ◌∙◌}
use Rattle.std.proofs.lemmas.Result.{on_ok_weaker}
use Rattle.fault_details.specs.RowDetails.{call_at}
use Rattle.fault_details.proofs.Pieces.{more}
use Rattle.fault_details.proofs.row_details.append_unasked.Goals as goal

pub returns-in_ok-append_call_at-in-Some : goal.returns-in_ok-append_call_at-in-Some
returns-in_ok-append_call_at-in-Some c =
    let old = c.args.text.now.items in
    let answered = λ (line : ℕ). old ++ call_at c.args.call (codes " was answered at line ") line in
    rw (sym c.last_place.ensures.place ∙ c.in-Some.is) (on_ok_weaker c.append.result
    (more old _ _ _ (codes "\n") (c.in_ok-append_call_at-in-Some.ensures ∙ ap answered c.line_at.ensures)) c.append.ensures)
