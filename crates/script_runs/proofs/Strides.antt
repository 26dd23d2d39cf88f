-- Random steps, taken and seen one after another.
use Rattle.std.proofs.Common.{ℕ, suc, ◌≡◌, ◌+◌, [], ◌∷◌, Option, None, Some, IsSome, MatchOption, Result, Ok, Err, IfOk, subst, arith}
use Rattle.rand_pcg.specs.Lcg.{Lcg}
use Rattle.random_steps.specs.Choices.{draw, step_of}
use Rattle.world_steps.specs.Refusals.{refusal_of}
use Rattle.world_steps.specs.declared.step.Step.{Step}
use Rattle.world_steps.specs.declared.system.System.{System}
use Rattle.script_runs.specs.Walks.{Walk, walk_after}
use Rattle.script_runs.specs.declared.origin.Origin.{Origin}
use Rattle.script_runs.proofs.Walking.{IsWalkAt}
use Rattle.script_runs.specs.Events.{Event, stride_tried, tries, walk_tried}
use Rattle.script_runs.specs.Observing.{Observes}
use Rattle.script_runs.proofs.Observing.{more_seen, one_seen}

-- one random step more
pub stride_seen : {O : Type 0} (sees : O → Event → O → Type 0) (origin : Origin) (start : Walk) (turn : ℕ) (s : System) (g : Lcg) (n : ℕ)
    (old now new : O) → IsWalkAt (walk_after start turn) s g n → Observes sees old (walk_tried origin start turn) now
    → sees now (tries origin s (step_of s (draw g))) new → Observes sees old (walk_tried origin start (turn + 1)) new
stride_seen sees origin start turn s g n old now new at before seen =
    let last : Event = stride_tried origin (walk_after start turn) in
    let same : tries origin s (step_of s (draw g)) ≡ last =
    λ i. tries origin (at.system_is i) (step_of (at.system_is i) (draw (at.generator_is i))) in
    let P : ℕ → Type 0 = λ k. Observes sees old (walk_tried origin start k) new in
    let one : suc turn ≡ turn + 1 = omega arith in
    subst P one
    (more_seen sees old now new (walk_tried origin start turn) (last ∷ []) before
    (one_seen sees now new last (subst (λ (e : Event). sees now e new) same seen)))

-- of a step that isn't made, since it is refused, that holds which holds of each that is refused
pub passed_over : {E : Type 0} (r : Result (Option Step) E) (s : System) (chosen : Step) (P : Type 0) → (IsSome (refusal_of s chosen) → P)
    → IfOk r (λ found. MatchOption found (IsSome (refusal_of s chosen)) (λ step. step ≡ chosen))
    → IfOk r (λ found. MatchOption found (IsSome (refusal_of s chosen) × P) (λ step. step ≡ chosen))
passed_over (Ok None) s chosen P holds refused = (refused, holds refused)
passed_over (Ok (Some step)) s chosen P holds is = is
passed_over (Err e) s chosen P holds is = tt
