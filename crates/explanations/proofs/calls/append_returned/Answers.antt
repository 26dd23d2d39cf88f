use Rattle.std.proofs.Common.{codes}
use Rattle.std.proofs.lemmas.Result.{on_ok_weaker}
use Rattle.explanations.specs.Sentences.{returned_text}
use Rattle.sentences.proofs.Appending.{more}
use Rattle.explanations.proofs.calls.append_returned.Goals as goal

pub returns-in_ok-append-in-Some : goal.returns-in_ok-append-in-Some
unfolding returned_text
returns-in_ok-append-in-Some c =
    rw c.in-Some.ensures.read (on_ok_weaker c.append_value.result (more c.args.text.now.items _ _ (codes " and answers ") _
    c.in_ok-append-in-Some.ensures) c.append_value.ensures)
