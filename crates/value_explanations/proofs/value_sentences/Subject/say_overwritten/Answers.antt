use Rattle.std.proofs.lemmas.Result.{on_ok_weaker}
use Rattle.sentences.proofs.Appending.{more, more_two}
use Rattle.value_explanations.specs.ValueSentences.{between_text}
use Rattle.value_explanations.proofs.value_sentences.Subject.say_overwritten.Goals as goal

pub returns : goal.returns
unfolding between_text
returns c =
    let old = c.args.text.now.items in
    on_ok_weaker c.append.result (more old _ _ _ _
    (more_two old _ _ _ _ _
    (more_two old _ _ _ _ _
    (more old _ _ _ _
    (more old _ _ _ _
    (more old _ _ _ _ c.in_ok-append_line.ensures c.in_ok-append_line-2.ensures)
    c.in_ok-append_line-3.ensures)
    c.in_ok-append_line-4.ensures)
    c.in_ok-append_op.ensures)
    c.in_ok-append_op-2.ensures))
    c.append.ensures
