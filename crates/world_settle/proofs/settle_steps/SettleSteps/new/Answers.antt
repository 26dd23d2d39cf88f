use Rattle.world_settle.proofs.Forward.{begins}
use Rattle.world_settle.proofs.settle_steps.SettleSteps.new.Goals as goal

pub returns-clause-begins : goal.returns-clause-begins
returns-clause-begins c =
    begins c.steps_keep_a_system_sound.ensures.steps c.args.world.now c.args.client c.refuse.ensures.sound c.in_ok-refuse.ensures.settles
