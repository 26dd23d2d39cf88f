use Rattle.std.proofs.Common.{codes}
use Rattle.std.proofs.lemmas.Result.{on_ok_weaker}
use Rattle.traces.specs.StepLines.{reply_text}
use Rattle.sentences.proofs.Appending.{more}
use Rattle.traces.proofs.acts.append_reply.Goals as goal

pub returns-in_ok-append_replica-in-Kept : goal.returns-in_ok-append_replica-in-Kept
unfolding reply_text
returns-in_ok-append_replica-in-Kept c =
    rw c.in-Kept.is (on_ok_weaker c.append-in-Kept.result
    (more c.args.text.now.items _ _ _ (codes " has its pair or a newer one") c.in_ok-append_replica-in-Kept.ensures) c.append-in-Kept.ensures)
