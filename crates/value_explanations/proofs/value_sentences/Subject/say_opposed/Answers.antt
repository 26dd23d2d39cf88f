use Rattle.std.proofs.lemmas.Result.{on_ok_weaker}
use Rattle.sentences.proofs.Appending.{more}
use Rattle.value_explanations.specs.ValueSentences.{circle_text, opposed_text}
use Rattle.value_explanations.proofs.value_sentences.Subject.say_opposed.Goals as goal

pub returns : goal.returns
unfolding opposed_text circle_text
returns c =
    let old = c.args.text.now.items in
    on_ok_weaker c.append-2.result (more old _ _ _ _
    (more old _ _ _ _
    (more old _ _ _ _
    (more old _ _ _ _
    (more old _ _ _ _ c.in_ok-append_side.ensures c.in_ok-append_side-2.ensures)
    c.in_ok-append_precedence.ensures)
    c.in_ok-append.ensures)
    c.in_ok-append_precedence-2.ensures))
    c.append-2.ensures
