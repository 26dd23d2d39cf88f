use Rattle.std.proofs.Common.{codes}
use Rattle.std.proofs.lemmas.Result.{on_ok_weaker}
use Rattle.sentences.proofs.Appending.{more_two, more_number}
use Rattle.value_explanations.specs.ValueSentences.{precedence_text}
use Rattle.value_explanations.proofs.value_sentences.append_precedence.Goals as goal

pub returns : goal.returns
unfolding precedence_text
returns c =
    let old = c.args.text.now.items in
    on_ok_weaker c.append_number-2.result (more_number old _ _ _ (codes " began at line ") _ _ c.line_at.ensures
    (more_two old _ _ _ _ _
    (more_number old _ _ _ (codes " was answered at line ") _ _ c.answered_line.ensures c.in_ok-append_op.ensures
    c.in_ok-append_number.ensures)
    c.in_ok-append_op-2.ensures))
    c.append_number-2.ensures
