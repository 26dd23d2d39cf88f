use Rattle.std.proofs.Common.{codes, ◌∙◌}
use Rattle.std.proofs.lemmas.Result.{on_ok_weaker}
use Rattle.explanations.specs.Sentences.{call_text}
use Rattle.sentences.proofs.Appending.{more, more_number}
use Rattle.explanations.proofs.pieces.Subject.append_call.Goals as goal

pub returns : goal.returns
unfolding call_text
returns c =
    let old = c.args.text.now.items in
    on_ok_weaker c.append_response.result (more old _ _ _ _
    (more old _ _ _ _
    (more_number old _ _ _ (codes " (began at line ") _ _ c.line_at.ensures
    (more old _ _ _ _
    (more_number old _ _ _ (codes ", client ") _ _ (c.from.ensures ∙ c.get.ensures.name) c.in_ok-append_op.ensures
    c.in_ok-append_number.ensures) c.in_ok-append_action.ensures) c.in_ok-append_number-2.ensures) c.in_ok-append_note.ensures))
    c.append_response.ensures
