use Rattle.std.proofs.Common.{◌∙◌, ap}
use Rattle.world_steps.specs.Refusals.{refusal_of}
use Rattle.world_steps.specs.declared.system.System.{System}
use Rattle.world_steps.proofs.Finding.{may_move}
use Rattle.world_steps.proofs.StepsSound.{moves_sound}
use Rattle.world_steps.proofs.world.World.take.Goals as goal

pub apply-requires : goal.apply-requires
apply-requires c = may_move c.self.inside.system c.args.step c.self.invariant (ap (λ (s : System). refusal_of s c.args.step) c.self.view_is ∙ c.requires)

pub invariant_of-self : goal.invariant_of-self
invariant_of-self c = moves_sound c.self.inside.system c.args.step c.apply.result c.apply.new.self c.self.invariant
    (ap (λ (s : System). refusal_of s c.args.step) c.self.view_is ∙ c.requires) c.apply.ensures

pub returns-clause-moves : goal.returns-clause-moves
returns-clause-moves c = rw (← c.self.view_is) c.apply.ensures

pub returns-clause-sound : goal.returns-clause-sound
returns-clause-sound c = invariant_of-self c
