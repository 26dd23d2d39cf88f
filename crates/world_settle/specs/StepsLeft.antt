-- Of the steps that complete a client's pending call those that are left.
use Rattle.std.specs.Prelude.{ℕ, ◌≡◌, ◌≤◌, List, [], ◌∷◌, ◌++◌, Option, MatchOption, length}
use Rattle.world_steps.specs.Runs.{AreAccepted, after_from, next}
use Rattle.world_steps.specs.declared.step.Step.{Step}
use Rattle.world_steps.specs.declared.step.Step.TheVariants as step
use Rattle.world_steps.specs.declared.system.System.{System}
use Rattle.world_settle.specs.Refusing.{MaySettle}
use Rattle.world_settle.specs.Settling.{AreSettleSteps}
use Rattle.world_settle.specs.declared.settle_steps.SettleSteps.{SettleSteps}
use Rattle.world_settle.specs.declared.settle_steps.Stage.{Stage}
use Rattle.world_settle.specs.declared.settle_steps.Stage.TheVariants.{Between, Asked, Answered}
use Rattle.world_settle.specs.declared.settle_steps.Stage.TheVariants.{Done}

-- the rest of a round is left, and then steps that complete the call
pub record AreLeftAfter (name : ℕ) (s : System) (round : List Step) (steps : List Step) : Type 0
  where
    pub others : List Step
    pub are : steps ≡ round ++ others
    pub onward : AreSettleSteps name (after_from s round) others

-- the steps that are left: those that complete the call, after what is left of a round
abbrev pub AreLeftAt : ℕ → Stage → System → List Step → Type 0
AreLeftAt name Between s steps = AreSettleSteps name s steps
AreLeftAt name (Asked request) s steps =
    AreLeftAfter name s (step.Deliver request ∷ step.Deliver s.pool.sent ∷ []) steps
AreLeftAt name (Answered reply) s steps = AreLeftAfter name s (step.Deliver reply ∷ []) steps
AreLeftAt name Done s steps = steps ≡ []

-- the same, of a client's call
abbrev pub AreLeft : SettleSteps → System → List Step → Type 0
AreLeft settling s steps = AreLeftAt settling.client settling.stage s steps

-- of the steps that are left, if none of them is refused, that is the first, after which the others
-- are left; or none is left
abbrev pub IsNext : SettleSteps → System → Option Step → SettleSteps → Type 0
IsNext old s first new = (steps : List Step) → AreLeft old s steps → AreAccepted s steps
    → MatchOption first (steps ≡ []) (λ one. (others : List Step) × (steps ≡ one ∷ others)
    × AreLeft new (next s one) others)

-- all steps that complete the client's call are left, and none of them is refused
pub record BeginsAt (s : System) (name : ℕ) (settling : SettleSteps) : Type 0 where
  pub may : MaySettle s name
  pub steps : List Step
  pub settles : AreSettleSteps name s steps
  pub accepted : AreAccepted s steps
  pub few : length steps ≤ 91
  pub left : AreLeft settling s steps
