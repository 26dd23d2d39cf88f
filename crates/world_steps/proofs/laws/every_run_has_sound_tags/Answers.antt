use Rattle.world_steps.proofs.Headline.{headline}
use Rattle.world_steps.proofs.laws.every_run_has_sound_tags.Goals as goal

pub returns : goal.returns
returns c = headline
