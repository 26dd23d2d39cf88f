use Rattle.std.proofs.lemmas.Str.Pattern.{split_text_parts}
use Rattle.std.proofs.Common.{codes, None, Some}
use Rattle.test_rows.proofs.Dividing.{undivided, divided_below}
use Rattle.test_rows.proofs.row.split_body.Goals as goal

pub returns-in_default-split_once : goal.returns-in_default-split_once
returns-in_default-split_once c = λ input expected d.
    undivided c.args.text.now input expected c.in_default.ensures.cases (split_text_parts (codes "\n---\n") c.args.text.now None c.in_default-split_once.ensures.cases) d

pub returns : goal.returns
returns c =
    divided_below c.args.text.now c.in-Some-split_once.lines.now c.split_at.result.0.now c.in-Some-split_once.expected.now (split_text_parts (codes "\n---\n") c.args.text.now (Some (c.in-Some-split_once.lines, c.in-Some-split_once.expected)) c.in-Some-split_once.ensures.cases) c.split_at.ensures.front
