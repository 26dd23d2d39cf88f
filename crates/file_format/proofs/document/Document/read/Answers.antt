use Rattle.std.proofs.Common.{◌≡◌, List, ℕ, Some, sym, ◌∙◌, subst}
use Rattle.json.specs.Value.{value_view}
use Rattle.file_format.specs.Trees.{tree_in}
use Rattle.file_format.proofs.FoundMembers.{json_line, no_numbers}
use Rattle.file_format.proofs.document.Document.read.Goals as goal

pub returns-then-not-has_numbers : goal.returns-then-not-has_numbers
returns-then-not-has_numbers c =
    let j = value_view c.in_ok-value.value in
    let P : List ℕ → Type 0 = λ text. tree_in text ≡ Some j in
    no_numbers c.args.line.now j (subst P c.in-Ok.ensures.cases.0 c.in_ok-value.ensures) (sym c.has_numbers.ensures
    ∙ c.if-not-has_numbers.true)

pub returns : goal.returns
returns c =
    let j = value_view c.in_ok-value.value in
    let P : List ℕ → Type 0 = λ text. tree_in text ≡ Some j in
    json_line c.args.line.now j c.in-Ok.ensures.cases.1 (subst P c.in-Ok.ensures.cases.0 c.in_ok-value.ensures)
    (sym c.has_numbers.ensures ∙ c.if-not-has_numbers.false)
