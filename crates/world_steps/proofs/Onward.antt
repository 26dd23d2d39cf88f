-- A run, step by step.
use Rattle.std.proofs.Common.{◌≡◌, ℕ, suc, ◌+◌, List, [], ◌∷◌, ◌++◌, None, Some, take, slice_get, sym, ap, ◌∙◌, refl, arith}
use Rattle.tag.proofs.Lists.{take_push}
use Rattle.world_steps.specs.Configs.{Config}
use Rattle.world_steps.specs.Refusals.{refusal_of}
use Rattle.world_steps.specs.Runs.{AreAccepted, next, after, after_from}
use Rattle.world_steps.specs.Systems.{system_after, opening}
use Rattle.world_steps.proofs.StepAnswers.{next_by}
use Rattle.world_steps.specs.declared.step.Step.{Step}
use Rattle.world_steps.specs.declared.system.System.{System}

-- a run with one step more
-- one list of steps, then another
pub after_append : (s : System) (first second : List Step) → after_from s (first ++ second) ≡ after_from (after_from s first) second
after_append s [] second = refl
after_append s (step ∷ first) second = after_append (next s step) first second

pub after_step : (config : Config) (steps : List Step) (step : Step) → after config (steps ++ step ∷ []) ≡ next (after config steps) step
after_step config steps step = after_append (opening config) steps (step ∷ [])

-- a step more that isn't refused
accepted_push : (s : System) (steps : List Step) (step : Step) → AreAccepted s steps → refusal_of (after_from s steps) step ≡ None → AreAccepted s (steps ++ step ∷ [])
accepted_push s [] step are none = (none, tt)
accepted_push s (first ∷ steps) step are none = (are.0, accepted_push (next s first) steps step are.1 none)

pub accepted_step : (config : Config) (steps : List Step) (step : Step) → AreAccepted (opening config) steps → refusal_of (after config steps) step ≡ None
    → (after config (steps ++ step ∷ []) ≡ system_after (after config steps) step) × AreAccepted (opening config) (steps ++ step ∷ [])
accepted_step config steps step are none = (after_step config steps step ∙ next_by (after config steps) step None none, accepted_push (opening config) steps step are none)

pub run_step : (config : Config) (steps : List Step) (i : ℕ) (step : Step) (world new : System) → slice_get steps i ≡ Some step → world ≡ after config (take i steps) → new ≡ next world step → new ≡ after config (take (i + 1) steps)
run_step config steps i step world new at was is =
    let one : suc i ≡ i + 1 = omega arith in
    is ∙ ap (λ w. next w step) was ∙ sym (after_step config (take i steps) step) ∙ sym (ap (after config) (take_push steps i step at)) ∙ ap (λ n. after config (take n steps)) one
