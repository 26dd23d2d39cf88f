use Rattle.std.proofs.lemmas.Result.{on_ok_weaker}
use Rattle.sentences.proofs.Appending.{more}
use Rattle.value_explanations.specs.ValueSentences.{early_text}
use Rattle.value_explanations.proofs.value_sentences.Subject.say_early.Goals as goal

pub returns : goal.returns
unfolding early_text
returns c =
    let old = c.args.text.now.items in
    on_ok_weaker c.append.result (more old _ _ _ _
    (more old _ _ _ _
    (more old _ _ _ _ c.in_ok-append_line.ensures c.in_ok-append_line-2.ensures)
    c.in_ok-append_precedence.ensures))
    c.append.ensures
