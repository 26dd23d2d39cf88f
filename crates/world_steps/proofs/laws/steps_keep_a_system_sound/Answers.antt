use Rattle.world_steps.proofs.Justified.{tags_justify}
use Rattle.world_steps.proofs.StepsSound.{after_from_sound}
use Rattle.world_steps.proofs.laws.steps_keep_a_system_sound.Goals as goal

pub returns-clause-steps : goal.returns-clause-steps
returns-clause-steps c = after_from_sound

pub returns-clause-parts : goal.returns-clause-parts
returns-clause-parts c s key part sound is = tags_justify s.history.rows sound.sound.recorded key part is
