use Rattle.std.proofs.Common.{codes}
use Rattle.std.proofs.lemmas.Str.Pattern.{contains_text}
use Rattle.test_rows.proofs.Telling.{four, unfound, weaker}
use Rattle.test_rows.proofs.texts.text_said.Goals as goal

pub returns-then-contains-clause-says : goal.returns-then-contains-clause-says
returns-then-contains-clause-says c = weaker c.format.result (λ said is stands. four c.args.name.now (codes " that says ") c.args.word.now (codes "\n") _ is) c.format.ensures.ok

pub returns-then-contains-clause-lacks : goal.returns-then-contains-clause-lacks
returns-then-contains-clause-lacks c =
    let found = contains_text c.contains.result c.args.word.now c.args.text.now c.contains.ensures.cases in
    weaker c.format.result (λ said is none. absurd (none (found.0 c.if-contains.true))) c.format.ensures.ok

pub returns-else-contains-clause-says : goal.returns-else-contains-clause-says
returns-else-contains-clause-says c =
    let found = contains_text c.contains.result c.args.word.now c.args.text.now c.contains.ensures.cases in
    weaker c.format-else-contains.result (λ said is stands. absurd (unfound c.contains.result c.args.text.now c.args.word.now found c.if-contains.false stands)) c.format-else-contains.ensures.ok

pub returns-else-contains-clause-lacks : goal.returns-else-contains-clause-lacks
returns-else-contains-clause-lacks c = weaker c.format-else-contains.result (λ said is none. four c.args.name.now (codes " that doesn't say ") c.args.word.now (codes "\n") _ is) c.format-else-contains.ensures.ok
