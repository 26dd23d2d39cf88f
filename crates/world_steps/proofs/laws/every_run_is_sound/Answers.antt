use Rattle.world_steps.proofs.StepsSound.{after_sound}
use Rattle.world_steps.proofs.laws.every_run_is_sound.Goals as goal

pub returns : goal.returns
returns c = after_sound
