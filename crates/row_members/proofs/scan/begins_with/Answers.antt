use Rattle.std.proofs.Common.{ℕ, List, ◌++◌, drop, sym, ap, ◌∙◌}
use Rattle.std.proofs.lemmas.List.{take-append-drop}
use Rattle.row_members.proofs.scan.begins_with.Goals as goal

pub returns-in-Some-clause-begins : goal.returns-in-Some-clause-begins
returns-in-Some-clause-begins g c = λ same.
    let bytes = c.args.bytes.now in
    sym (take-append-drop g.row.N bytes)
    ∙ ap (λ (s : List ℕ). s ++ drop g.row.N bytes) (sym c.in-Some.ensures.cases.same ∙ c.has_bytes.ensures same)
