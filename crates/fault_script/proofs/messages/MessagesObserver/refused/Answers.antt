use Rattle.std.proofs.lemmas.Result.{on_ok_weaker}
use Rattle.fault_script.specs.MessageTexts.{refused_message}
use Rattle.fault_script.proofs.messages.MessagesObserver.refused.Goals as goal

pub returns-in-Step : goal.returns-in-Step
unfolding refused_message
returns-in-Step c =
    on_ok_weaker c.append_reason.result (λ said s refused. rw (c.in-Step.is, refused, ← c.number.ensures, ← c.name.ensures) said)
    c.append_reason.ensures
