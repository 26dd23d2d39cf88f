-- The arrows of a diagram of messages: each copy of a message has one, from the row of the step
-- that sent or repeated it to the row of the step that delivered or lost it.
use Rattle.std.specs.Prelude.{ℕ, ◌==◌, ◌&&◌, Bool, true, false, List, [], ◌∷◌, ◌++◌}
use Rattle.std.specs.Prelude.{Option, None, Some}
use Rattle.std.specs.List.{find}
use Rattle.replica.specs.declared.replies.Reply.{Reply}
use Rattle.replica.specs.declared.replies.Reply.TheVariants.{Held, Kept}
use Rattle.network.specs.Flights.{message_of}
use Rattle.network.specs.declared.messages.Message.{Message}
use Rattle.network.specs.declared.messages.Message.TheVariants.{ToClient}
use Rattle.client_phases.specs.declared.outcomes.Taken.TheVariants as outcome
use Rattle.world_steps.specs.Systems.{effect_of}
use Rattle.world_steps.specs.declared.effect.Effect.{Effect}
use Rattle.world_steps.specs.declared.effect.Effect.TheVariants as effect
use Rattle.world_steps.specs.declared.step.Step.{Step}
use Rattle.world_steps.specs.declared.step.Step.TheVariants as step
use Rattle.message_scenes.specs.Lists.{change_first}
use Rattle.message_scenes.specs.Tried.{TakenStep}
use Rattle.message_scenes.specs.declared.arrows.Arrow.{Arrow}
use Rattle.message_scenes.specs.declared.arrows.ArrowEnd.{ArrowEnd}
use Rattle.message_scenes.specs.declared.arrows.ArrowEnd.TheVariants as ending

-- whether an arrow has no end yet
abbrev pub is_open : ArrowEnd → Bool
is_open ending.Open = true
is_open other = false

-- whether the arrow is that of a copy of the flight that is under way
abbrev pub is_under_way : ℕ → Arrow → Bool
is_under_way flight arrow = arrow.flight == flight && is_open arrow.end

-- the arrow, ended
abbrev pub ended : ArrowEnd → Arrow → Arrow
ended there arrow = record arrow { end = there }

-- the copy of the flight that was sent first, of those under way, ends there
abbrev pub end_flight : ℕ → ArrowEnd → List Arrow → List Arrow
end_flight flight there arrows = change_first (is_under_way flight) (ended there) arrows

-- how a copy ends that arrives by the step of a row with that effect: of a stale reply its client
-- counts nothing
abbrev pub arrival : ℕ → Option Effect → ArrowEnd
arrival row (Some (effect.Taken outcome.Stale)) = ending.Stale row
arrival row other = ending.Arrives row

-- the replica that a reply is from
abbrev pub replier : Reply → ℕ
replier (Held op replica tag value) = replica
replier (Kept op replica) = replica

-- the arrow of a reply that a delivery sends, if it sends one
abbrev pub reply_arrow : ℕ → ℕ → Option Message → List Arrow
reply_arrow row flight (Some (ToClient name reply)) = record {
  flight = flight;
  client = name;
  replica = replier reply;
  message = ToClient name reply;
  begins = row;
  end = ending.Open;
} ∷ []
reply_arrow row flight other = []

-- the arrow of a request that a client sends to a replica
abbrev pub request_arrow : ℕ → ℕ → ℕ → ℕ → Option Message → List Arrow
request_arrow row name replica flight (Some message) = record {
  flight = flight;
  client = name;
  replica = replica;
  message = message;
  begins = row;
  end = ending.Open;
} ∷ []
request_arrow row name replica flight None = []

-- the arrow of a copy more of a message under way
abbrev pub copy_arrow : ℕ → Option Arrow → List Arrow
copy_arrow row (Some arrow) = record arrow { begins = row } ∷ []
copy_arrow row None = []

-- the arrows after the step of a row with that effect, which may have sent a message under the next
-- flight number
abbrev pub arrows_by : ℕ → Step → Option Effect → ℕ → Option Message → List Arrow → List Arrow
arrows_by row (step.Send name replica) its_effect flight sent arrows =
    arrows ++ request_arrow row name replica flight sent
arrows_by row (step.Deliver number) its_effect flight sent arrows =
    end_flight number (arrival row its_effect) arrows ++ reply_arrow row flight sent
arrows_by row (step.Lose number) its_effect flight sent arrows =
    end_flight number (ending.Lost row) arrows
arrows_by row (step.Repeat number) its_effect flight sent arrows =
    arrows ++ copy_arrow row (find (is_under_way number) arrows)
arrows_by row other its_effect flight sent arrows = arrows

-- the arrows after a step that was taken
unfoldable pub arrows_after : ℕ → TakenStep → List Arrow → List Arrow
arrows_after row t arrows =
    let flight = t.before.pool.sent in
    arrows_by row t.step (effect_of t.before t.step) flight
    (message_of t.after.pool.flights flight) arrows
