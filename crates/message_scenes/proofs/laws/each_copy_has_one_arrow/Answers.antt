use Rattle.message_scenes.proofs.ShownCopies.{copies_shown}
use Rattle.message_scenes.proofs.laws.each_copy_has_one_arrow.Goals as goal

pub returns : goal.returns
returns c = λ script last taken most takes. copies_shown script.config script.commands.items last taken most takes
