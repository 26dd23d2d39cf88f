use Rattle.world_settle.proofs.Bounds.{settled_agreed, settled_majorities}
use Rattle.world_settle.proofs.Forward.{settled_earlier, settled_completes, settled_within}
use Rattle.world_settle.proofs.settling.settle.Goals as goal

pub returns-in_err-steps-clause-sound : goal.returns-in_err-steps-clause-sound
returns-in_err-steps-clause-sound c = c.new.ensures.sound

pub take_all-requires-clause-sound : goal.take_all-requires-clause-sound
take_all-requires-clause-sound c = c.new.ensures.sound

pub returns-clause-earlier : goal.returns-clause-earlier
returns-clause-earlier c = settled_earlier c.args.world.now c.args.client c.take_all.result c.take_all.new.world c.take_all.ensures.settles

pub returns-clause-completes : goal.returns-clause-completes
returns-clause-completes c = settled_completes c.steps_keep_a_system_sound.ensures.steps c.args.world.now c.args.client c.take_all.result c.take_all.new.world c.new.ensures.sound c.take_all.ensures.settles

pub returns-clause-within : goal.returns-clause-within
returns-clause-within c = settled_within c.steps_keep_a_system_sound.ensures.steps c.args.world.now c.args.client c.take_all.result c.take_all.new.world c.new.ensures.sound c.take_all.ensures.settles

pub returns-clause-majorities : goal.returns-clause-majorities
returns-clause-majorities c = settled_majorities c.steps_keep_a_system_sound.ensures.steps c.args.world.now c.args.client c.take_all.result c.take_all.new.world c.new.ensures.sound c.take_all.ensures.settles

pub returns-clause-agreed : goal.returns-clause-agreed
returns-clause-agreed c = settled_agreed c.steps_keep_a_system_sound.ensures.steps c.args.world.now c.args.client c.take_all.result c.take_all.new.world c.new.ensures.sound c.take_all.ensures.settles
