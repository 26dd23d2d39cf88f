-- A turn that stops a client.
use Rattle.std.proofs.Common.{◌≡◌, ℕ, [], ◌∷◌, Bool, true, false, is_none, option_map, Some, Result, Ok, Err, ⊎_elim, refl, ap, ◌∙◌}
use Rattle.std.specs.FinMap as finite
use Rattle.tag.proofs.Options.{none_some}
use Rattle.client_phases.specs.Clients.{client_after_stop, phase_of}
use Rattle.client_phases.specs.declared.clients.Client.{Client}
use Rattle.client_phases.specs.declared.outcomes.Phase.{Phase}
use Rattle.client_phases.specs.declared.outcomes.Phase.TheVariants as phase
use Rattle.world_steps.specs.Lasting.{HasJoined}
use Rattle.world_steps.specs.Refusals.{first_of, is_stopped, no_such_client, phase_at}
use Rattle.world_steps.specs.Systems.{stop, system_after}
use Rattle.world_steps.specs.declared.effect.Effect.{Effect}
use Rattle.world_steps.specs.declared.refusal.Refusal.{Refusal}
use Rattle.world_steps.specs.declared.refusal.Refusal.TheVariants as refusal
use Rattle.world_steps.specs.declared.step.Step.TheVariants as step
use Rattle.world_steps.specs.declared.system.System.{System}
use Rattle.hall_journal.specs.Halls.{Hall, IsRefused, TakesOrRefuses}
use Rattle.hall_lock.specs.declared.rule.View.{View}
use Rattle.hall_lock.specs.Turns.{Turns, is_client_stopped, seat}
use Rattle.hall_lock.proofs.Joining.{there_now}

-- the stop was taken
stops : (s : System) (name : ℕ) (client : Client) → finite.get s.members.clients name ≡ Some client
    → is_stopped (phase_at (system_after s (step.StopClient name)) name) ≡ true
stops s name client there =
    ap (λ o. is_stopped (phase_at (stop s name o) name)) there ∙ ap (λ o. is_stopped (option_map phase_of o))
    (there_now s.members.clients name (client_after_stop client))

-- of a client that is there a stop is refused only where it is stopped
by_table : (missing stopped : Bool) (why : Refusal) → missing ≡ false
    → first_of ((refusal.NoSuchClient, missing) ∷ (refusal.ClientStopped, stopped) ∷ []) ≡ Some why → stopped ≡ true
by_table true stopped why there some = absurd (cc)
by_table false true why there some = refl
by_table false false why there some = none_some some

was_stopped : (s : System) (name : ℕ) (why : Refusal) → HasJoined s name → IsRefused s (step.StopClient name) why
    → is_stopped (phase_at s name) ≡ true
was_stopped s name why joined refused =
    ⊎_elim (λ some. by_table (no_such_client s name) (is_stopped (phase_at s name)) why (ap is_none joined.1) some)
    (λ wants. absurd wants.2) refused

is_stopped_after : (old new : Hall) (name : ℕ) (result : Result Effect Refusal) → HasJoined old.world name
    → TakesOrRefuses old (step.StopClient name) result new → is_stopped (phase_at new.world name) ≡ true
is_stopped_after old new name (Ok effect) joined took = ap (λ (h : Hall). is_stopped (phase_at h.world name)) took.2 ∙ stops old.world
    name joined.0 joined.1
is_stopped_after old new name (Err why) joined took = ap (λ (h : Hall). is_stopped (phase_at h.world name)) took.1 ∙ was_stopped old.world
    name why joined took.0

pub sees_stopped : (client : ℕ) (v w : View) (result : Result Effect Refusal) → v ≡ seat client v.rows v.is_stopped
    → Turns v (step.StopClient client) result w → w.is_stopped ≡ true
sees_stopped client v w result is turn =
    let named : v.client ≡ Some client = ap (λ (y : View). y.client) is in
    ap (λ (y : View). y.is_stopped) turn.is ∙ ap (λ c. is_client_stopped c turn.after.world) named ∙ is_stopped_after turn.before
    turn.after client result (turn.knows.joined client named) turn.took

-- no other phase is stopped
pub only_stopped : (p : Phase) → is_stopped (Some p) ≡ true → p ≡ phase.Stopped
only_stopped phase.Idle is = absurd (cc)
only_stopped phase.Ask is = absurd (cc)
only_stopped phase.Put is = absurd (cc)
only_stopped phase.Ready is = absurd (cc)
only_stopped phase.Stopped is = refl
