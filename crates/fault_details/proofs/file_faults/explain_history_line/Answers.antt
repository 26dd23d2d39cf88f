use Rattle.std.proofs.Common.{ℕ, List, ◌≡◌, subst}
use Rattle.std.proofs.lemmas.Result.{IfOk-weaker}
use Rattle.fault_details.specs.FileFaults.{AddsHistory, SaysOfLine, said}
use Rattle.fault_details.proofs.file_faults.explain_history_line.Goals as goal

pub returns : goal.returns
returns g c =
    let all = g.S.Read.remaining c.args.again in
    let body = c.append_history.new.text.items in
    let adds = subst (λ (xs : List ℕ). AddsHistory all c.in-Some.line c.args.fault xs body) c.new-text.ensures.items
    c.in_ok-append_history.ensures in
    IfOk-weaker c.said-2.result (λ whole. whole.items ≡ said body)
    (λ whole. SaysOfLine (AddsHistory all) c.args.line c.args.fault whole.items)
    (λ whole e. record { body = body; adds = rw c.in-Some.is adds; is = e }) c.said-2.ensures
