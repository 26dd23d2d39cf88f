use Rattle.fault_script.specs.MessageTexts.{unfinished_message}
use Rattle.fault_script.proofs.messages.MessagesObserver.notice.Goals as goal

pub returns-in-Unfinished : goal.returns-in-Unfinished
unfolding unfinished_message
returns-in-Unfinished c = rw (c.in-Unfinished.is, ← c.number.ensures, ← c.name.ensures) c.append_reason.ensures
