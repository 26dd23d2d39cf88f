use Rattle.message_scenes.proofs.ShownCalls.{calls_shown}
use Rattle.message_scenes.proofs.laws.each_call_has_one_bar.Goals as goal

pub returns : goal.returns
returns c = λ script last taken most takes. calls_shown script.config script.commands.items last taken most takes
