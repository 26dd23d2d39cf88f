-- A client that hears a reply then stands as its phases' meaning says.
use Rattle.std.proofs.Common.{ℕ, ◌≡◌, Some, ap, ◌∙◌}
use Rattle.std.specs.FinMap as finite
use Rattle.replica.specs.declared.replies.Reply.{Reply}
use Rattle.client_phases.specs.Clients.{client_after, reply_result}
use Rattle.client_phases.specs.declared.clients.Client.{Client}
use Rattle.network.specs.Flights.{message_of}
use Rattle.network.specs.declared.messages.Message.TheVariants.{ToClient}
use Rattle.network.proofs.Lookups.{get_same}
use Rattle.world_steps.specs.Systems.{arrival_effect, deliver, lose, take, take_effect}
use Rattle.world_steps.specs.declared.step.Step.TheVariants as step
use Rattle.world_steps.specs.declared.system.System.{System}
use Rattle.script_runs.specs.declared.origin.Origin.{Origin}
use Rattle.message_scenes.specs.Hearings.{heard_by, heard_with, hearing_of, receiver_in}
use Rattle.message_scenes.specs.Tried.{taken_step}

pub heard_so : (row flight name : ℕ) (origin : Origin) (s : System) (reply : Reply) (client : Client)
    → message_of s.pool.flights flight ≡ Some (ToClient name reply) → finite.get s.members.clients name ≡ Some client
    → hearing_of row (taken_step origin s (step.Deliver flight))
    ≡ heard_by row name (reply_result client reply) s.config.quorums (Some (client_after client reply))
unfolding hearing_of
heard_so row flight name origin s reply client there joined =
    (λ i. heard_with row (receiver_in (there i)) (arrival_effect s (there i)) (deliver s flight (there i)))
    ∙ (λ i. heard_with row (Some name) (take_effect reply (joined i)) (lose (take s name reply (joined i)) flight))
    ∙ ap (heard_by row name (reply_result client reply) s.config.quorums) (get_same s.members.clients name (client_after client reply))
