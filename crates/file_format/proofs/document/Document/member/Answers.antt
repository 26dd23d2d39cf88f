use Rattle.std.proofs.Common.{ℕ, List, Some, ap, sym, ◌∙◌}
use Rattle.json.specs.Value.{value_view}
use Rattle.serde_json.specs.Data.{string}
use Rattle.file_format.proofs.FoundMembers.{missing_there, null_there, string_there, other_there}
use Rattle.file_format.proofs.document.Document.member.Goals as goal

pub returns-in_default : goal.returns-in_default
returns-in_default c =
    missing_there c.args.name.now (value_view c.args.self.now.value) c.args.self.now.numbers (sym c.in_default.ensures)

pub returns-then-is_null : goal.returns-then-is_null
returns-then-is_null c =
    let null = sym c.is_null.ensures ∙ c.if-is_null.true in
    null_there c.args.name.now (value_view c.args.self.now.value) (value_view c.in-Some.value.now) c.args.self.now.numbers
    (sym c.in-Some.ensures) null

pub returns-in-Some-as_str : goal.returns-in-Some-as_str
returns-in-Some-as_str c =
    string_there c.args.name.now (value_view c.args.self.now.value) (value_view c.in-Some.value.now) c.in-Some-as_str.text.now
    c.args.self.now.numbers (sym c.in-Some.ensures) (sym c.in-Some-as_str.ensures)
    ∙ ap (λ (s : List ℕ). Some (string s)) (sym c.found.ensures)

pub returns-in-None : goal.returns-in-None
returns-in-None c =
    other_there c.args.name.now (value_view c.args.self.now.value) (value_view c.in-Some.value.now) c.args.self.now.numbers
    (sym c.in-Some.ensures) (sym c.is_null.ensures ∙ c.if-is_null.false) (sym c.in-None.ensures)
