use Rattle.std.proofs.Common.{sym, subst}
use Rattle.world_steps.specs.SoundSystems.{IsSound}
use Rattle.world_steps.proofs.OpeningSound.{opening_sound}
use Rattle.world_steps.proofs.world.World.new.Goals as goal

pub invariant_of-result : goal.invariant_of-result
invariant_of-result c = subst IsSound (sym c.in_ok-system.ensures.system) (opening_sound c.args.config c.new.ensures.lawful c.new.ensures.few)

pub returns-clause-sound : goal.returns-clause-sound
returns-clause-sound c = subst IsSound (sym c.in_ok-system.ensures.system) (opening_sound c.args.config c.new.ensures.lawful c.new.ensures.few)
