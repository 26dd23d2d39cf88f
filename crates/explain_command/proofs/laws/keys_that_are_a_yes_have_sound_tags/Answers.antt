use Rattle.explain_command.proofs.SoundKeys.{sound_keys}
use Rattle.explain_command.proofs.laws.keys_that_are_a_yes_have_sound_tags.Goals as goal

pub returns : goal.returns
returns c = sound_keys
