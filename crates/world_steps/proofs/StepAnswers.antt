-- What a step answers is the next system.
use Rattle.std.proofs.Common.{◌≡◌, Option, None, Some, is_some, Result, Ok, Err, inl, inr, cond}
use Rattle.std.proofs.Common.{sym, ap, ◌∙◌}
use Rattle.world_steps.specs.Refusals.{refusal_of}
use Rattle.world_steps.specs.Runs.{Steps, next}
use Rattle.world_steps.specs.Systems.{system_after}
use Rattle.world_steps.specs.declared.effect.Effect.{Effect}
use Rattle.world_steps.specs.declared.refusal.Refusal.{Refusal}
use Rattle.world_steps.specs.declared.refusal.Refusal.TheVariants as refusal
use Rattle.world_steps.specs.declared.step.Step.{Step}
use Rattle.world_steps.specs.declared.system.System.{System}

-- the next system, by whether the step is refused
pub next_by : (s : System) (step : Step) (found : Option Refusal) → refusal_of s step ≡ found
    → next s step ≡ cond (is_some found) s (system_after s step)
next_by s step found e = ap (λ o. cond (is_some o) s (system_after s step)) e

-- a step that nothing refuses is made
pub next_moved : (s : System) (step : Step) → refusal_of s step ≡ None → next s step ≡ system_after s step
next_moved s step none = next_by s step None none

-- a step that isn't refused for memory leaves the next system
pub next_is : (s : System) (step : Step) (result : Result Effect Refusal) (new : System)
    → Steps s step result new → (result ≡ Err refusal.Memory → ⊥) → new ≡ next s step
next_is s step (Ok effect) new (none, answered, is) fine = is ∙ sym (next_by s step None none)
next_is s step (Err why) new (inl refused, same) fine =
    same ∙ sym (next_by s step (Some why) refused)
next_is s step (Err why) new (inr (none, memory, grows), same) fine = absurd (fine (ap Err memory))
