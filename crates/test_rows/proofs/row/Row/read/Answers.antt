use Rattle.std.proofs.Common.{None, Some, arith}
use Rattle.std.proofs.lemmas.Str.Pattern.{split_parts}
use Rattle.test_rows.proofs.Dividing.{written, divided_by}
use Rattle.test_rows.proofs.row.Row.read.Goals as goal

pub returns-in_default : goal.returns-in_default
returns-in_default c = λ name input expected w. divided_by c.args.block.now name input expected None c.in_default.ensures.cases w

pub returns-in_default-split_body : goal.returns-in_default-split_body
returns-in_default-split_body c = λ name input expected w.
    c.in_default-split_body.ensures input expected (divided_by c.args.block.now name input expected (Some (c.in-Some.name, c.in-Some.body)) c.in-Some.ensures.cases w)

pub returns : goal.returns
returns c =
    let parts = split_parts 10 c.args.block.now (Some (c.in-Some.name, c.in-Some.body)) c.in-Some.ensures.cases (omega arith) in
    written c.args.block.now c.in-Some.name.now c.in-Some.body.now c.in-Some-split_body.input.now c.in-Some-split_body.expected.now parts.0 parts.1 c.in-Some-split_body.ensures
