-- What clients make of the replies that they hear, and the votes that they have counted.
use Rattle.std.specs.Prelude.{ℕ, Option, Some, None}
use Rattle.std.specs.FinMap as map
use Rattle.quorum.specs.Quorums.{Quorums, votes_of}
use Rattle.client_phases.specs.Clients.{counted_by, phase_of}
use Rattle.client_phases.specs.declared.clients.Client.{Client}
use Rattle.client_phases.specs.declared.outcomes.Phase.{Phase}
use Rattle.client_phases.specs.declared.outcomes.Phase.TheVariants.{Ask}
use Rattle.client_phases.specs.declared.outcomes.Taken.{Taken}
use Rattle.network.specs.Flights.{message_of}
use Rattle.network.specs.declared.messages.Message.{Message}
use Rattle.network.specs.declared.messages.Message.TheVariants.{ToClient}
use Rattle.world_steps.specs.Systems.{effect_of}
use Rattle.world_steps.specs.declared.effect.Effect.{Effect}
use Rattle.world_steps.specs.declared.effect.Effect.TheVariants as effect
use Rattle.world_steps.specs.declared.step.Step.{Step}
use Rattle.world_steps.specs.declared.step.Step.TheVariants as step
use Rattle.world_steps.specs.declared.system.System.{System}
use Rattle.message_scenes.specs.Tried.{TakenStep}
use Rattle.message_scenes.specs.declared.hearings.Hearing.{Hearing}

-- the client that a message is for, if it is a reply
abbrev pub receiver_in : Option Message → Option ℕ
receiver_in (Some (ToClient name reply)) = Some name
receiver_in other = None

-- the client that hears a reply by the step, if one does
abbrev pub receiver_of : System → Step → Option ℕ
receiver_of s (step.Deliver flight) = receiver_in (message_of s.pool.flights flight)
receiver_of s other = None

-- how many votes end a phase: those of an ask quorum while the client asks, else those of a put
-- quorum
abbrev pub votes_needed : Quorums → Phase → ℕ
votes_needed quorums Ask = quorums.ask
votes_needed quorums other = quorums.put

-- what came of a reply that the client of that name heard, which then stands so: the votes of the
-- replicas that it has counted in its phase, of those that end the phase
abbrev pub heard_by : ℕ → ℕ → Taken → Quorums → Option Client → Option Hearing
heard_by row name taken quorums None = None
heard_by row name taken quorums (Some client) = Some (record {
  row = row;
  client = name;
  taken = taken;
  votes = votes_of quorums.votes (counted_by client);
  needed = votes_needed quorums (phase_of client);
})

-- the same, if a client made something of a reply
abbrev pub heard_with : ℕ → Option ℕ → Option Effect → System → Option Hearing
heard_with row (Some name) (Some (effect.Taken taken)) s =
    heard_by row name taken s.config.quorums (map.get s.members.clients name)
heard_with row receiver its_effect s = None

-- what a client makes of the reply that it hears by the step of a row
unfoldable pub hearing_of : ℕ → TakenStep → Option Hearing
hearing_of row t =
    heard_with row (receiver_of t.before t.step) (effect_of t.before t.step) t.after
