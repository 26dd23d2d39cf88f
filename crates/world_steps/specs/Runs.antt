-- Steps and runs.
use Rattle.std.specs.Prelude.{ℕ, ◌≡◌, ◌⊎◌, List, [], ◌∷◌, None, Some, Result, Ok, Err, is_some}
use Rattle.std.specs.Prelude.{if◌then◌else◌}
use Rattle.world_steps.specs.Configs.{Config}
use Rattle.world_steps.specs.Systems.{opening, system_after, effect_of}
use Rattle.world_steps.specs.declared.system.System.{System}
use Rattle.world_steps.specs.Refusals.{refusal_of}
use Rattle.world_steps.specs.declared.step.Step.{Step}
use Rattle.world_steps.specs.declared.step.Step.TheVariants as step
use Rattle.world_steps.specs.declared.effect.Effect.{Effect}
use Rattle.world_steps.specs.declared.refusal.Refusal.{Refusal}
use Rattle.world_steps.specs.declared.refusal.Refusal.TheVariants as refusal

-- the system after a step: a step that is refused changes nothing
abbrev pub next : System → Step → System
next s step = if is_some (refusal_of s step) then s else system_after s step

-- the system after a list of steps
abbrev pub after_from : System → List Step → System
after_from s [] = s
after_from s (step ∷ steps) = after_from (next s step) steps

-- the system that the steps make of the opening one
abbrev pub after : Config → List Step → System
after config steps = after_from (opening config) steps

-- none of the steps is refused when it is taken
abbrev pub AreAccepted : System → List Step → Type 0
AreAccepted s [] = Unit {0}
AreAccepted s (step ∷ steps) = (refusal_of s step ≡ None) × AreAccepted (next s step) steps

-- how many clients join by a step
abbrev pub join_count : Step → ℕ
join_count (step.Join name) = 1
join_count other = 0

-- how many clients stop by a step
abbrev pub stop_count : Step → ℕ
stop_count (step.StopClient name) = 1
stop_count other = 0

-- a step that holds texts
abbrev pub HoldsTexts : Step → Type 0
HoldsTexts (step.Invoke name key action) = Unit {0}
HoldsTexts other = ⊥

-- a step that may allocate memory
abbrev pub MayGrow : Step → Type 0
MayGrow (step.Lose flight) = ⊥
MayGrow (step.Repeat flight) = ⊥
MayGrow (step.StopClient name) = ⊥
MayGrow (step.StopReplica number) = ⊥
MayGrow (step.StartReplica number) = ⊥
MayGrow other = Unit {0}

-- the step may be refused for that reason: the table says so; or the reason is memory, nothing else
-- refuses the step, and it may allocate
abbrev pub RefusesStep : System → Step → Refusal → Type 0
RefusesStep s step why = (refusal_of s step ≡ Some why)
    ⊎ ((refusal_of s step ≡ None) × (why ≡ refusal.Memory) × MayGrow step)

-- what a step answers and leaves: its effect and the system after it; or a refusal, and the system
-- as it was
abbrev pub Steps : System → Step → Result Effect Refusal → System → Type 0
Steps old step (Ok effect) new = (refusal_of old step ≡ None) × (effect_of old step ≡ Some effect)
    × (new ≡ system_after old step)
Steps old step (Err why) new = RefusesStep old step why × (new ≡ old)
