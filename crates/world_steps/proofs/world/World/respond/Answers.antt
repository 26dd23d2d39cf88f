use Rattle.std.proofs.Common.{◌∙◌, ap}
use Rattle.world_steps.specs.Refusals.{refusal_of}
use Rattle.world_steps.specs.declared.step.Step.TheVariants as step
use Rattle.world_steps.specs.declared.system.System.{System}
use Rattle.world_steps.proofs.Finding.{may_respond}
use Rattle.world_steps.proofs.StepsSound.{responded_sound}
use Rattle.world_steps.proofs.world.World.respond.Goals as goal

pub respond-requires : goal.respond-requires
respond-requires c = may_respond c.self.inside.system c.self.invariant c.args.client
    (ap (λ (s : System). refusal_of s (step.Respond c.args.client)) c.self.view_is ∙ c.requires)

pub invariant_of-self : goal.invariant_of-self
invariant_of-self c = responded_sound c.self.inside.system c.args.client c.respond.result c.respond.new.self c.self.invariant
    (ap (λ (s : System). refusal_of s (step.Respond c.args.client)) c.self.view_is ∙ c.requires) c.respond.ensures.moves c.respond.ensures.err

pub returns-clause-moves : goal.returns-clause-moves
returns-clause-moves c = rw (← c.self.view_is) c.respond.ensures.moves

pub returns-clause-ready : goal.returns-clause-ready
returns-clause-ready c = rw (← c.self.view_is) c.respond.ensures.ready

pub returns-clause-err : goal.returns-clause-err
returns-clause-err c = rw (← c.self.view_is) c.respond.ensures.err

pub returns-clause-sound : goal.returns-clause-sound
returns-clause-sound c = invariant_of-self c
