-- The steps that complete a call, taken and seen one after another.
use Rattle.std.proofs.Common.{ℕ, ◌≡◌, ◌+◌, List, [], ◌∷◌, ◌++◌, None, Some, sym, ap, ◌∙◌, subst}
use Rattle.world_settle.specs.StepsLeft.{BeginsAt, IsNext}
use Rattle.world_settle.specs.declared.settle_steps.SettleSteps.{SettleSteps}
use Rattle.world_settle.proofs.Forward.{Going, going_all, going_none, going_none-taken, going_on, going_on-taken}
use Rattle.world_steps.specs.Runs.{after_from, next}
use Rattle.world_steps.specs.declared.step.Step.{Step}
use Rattle.world_steps.specs.declared.system.System.{System}
use Rattle.script_runs.specs.Events.{Event, tried, tries}
use Rattle.script_runs.specs.Observing.{Observes}
use Rattle.script_runs.specs.Observing.Observes.{nothing}
use Rattle.script_runs.specs.Running.{ObservesSettling}
use Rattle.script_runs.specs.declared.origin.Origin.{Origin}
use Rattle.script_runs.proofs.Observing.{more_seen, one_seen, tried_on}

module _ {O : Type 0} (sees : O → Event → O → Type 0) (origin : Origin) (old : System) (name : ℕ) (start : O) where
  -- so many of the steps are taken and seen
  pub record Under (current : System) (settling : SettleSteps) (count : ℕ) (now : O) : Type 0 where
    pub going : Going old name current settling count
    pub observes : Observes sees start (tried origin old going.taken) now

  -- no step yet
  pub begun : (settling : SettleSteps) → BeginsAt old name settling → Under old settling 0 start
  begun settling b = record {
    going = going_none old name settling b;
    observes = subst (λ (steps : List Step). Observes sees start (tried origin old steps) start) (sym (going_none-taken old name settling b))
        (nothing start);
  }

  module _ (current : System) (settling : SettleSteps) (count : ℕ) (now : O) (u : Under current settling count now) where
    -- one step more
    pub step_more : (one : Step) (new : SettleSteps) (is : IsNext settling current (Some one) new) (after : System) (then : O)
        → after ≡ next current one → sees now (tries origin current one) then → Under after new (count + 1) then
    step_more one new is after then moved seen =
        let taken : List Step = u.going.taken in
        let event : sees now (tries origin (after_from old taken) one) then =
        subst (λ (s : System). sees now (tries origin s one) then) u.going.there seen in
        let all : Observes sees start (tried origin old taken ++ tries origin (after_from old taken) one ∷ []) then =
        more_seen sees start now then (tried origin old taken) (tries origin (after_from old taken) one ∷ []) u.observes
        (one_seen sees now then (tries origin (after_from old taken) one) event) in
        record {
          going = going_on old name current settling count u.going one new is after moved;
          observes = subst (λ (events : List Event). Observes sees start events then)
              (sym (tried_on origin old taken (one ∷ [])) ∙ ap (tried origin old)
              (sym (going_on-taken old name current settling count u.going one new is after moved))) all;
        }

    -- no step is left
    pub steps_over : (new : SettleSteps) → IsNext settling current None new → ObservesSettling sees origin name count start old now current
    steps_over new is = record {
      steps = u.going.taken;
      settles = going_all old name current settling count u.going new is;
      counted = u.going.counted;
      there = u.going.there;
      observes = u.observes;
    }
