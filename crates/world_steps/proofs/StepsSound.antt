-- Each step, and each list of steps, keeps the system sound.
use Rattle.std.proofs.Common.{◌≡◌, ℕ, ◌≤◌, true, false, cond, is_some, List, [], ◌∷◌, Option, None, Some, Result, Ok, Err, refl}
use Rattle.std.proofs.Common.{sym, subst}
use Rattle.std.specs.Prelude.{IfOk, OnErr}
use Rattle.std.specs.FinMap as finite
use Rattle.std.proofs.lemmas.Bool.{not-false}
use Rattle.tag.specs.declared.actions.Action.{Action}
use Rattle.tag.specs.declared.actions.Returned.{Returned}
use Rattle.tag.specs.declared.memory.Memory.{Memory}
use Rattle.tag.specs.declared.numbers.OpId.{OpId}
use Rattle.quorum.specs.Quorums.{IsLawful}
use Rattle.network.specs.Flights.{message_of}
use Rattle.network.specs.declared.messages.Message.{Message}
use Rattle.network.specs.declared.messages.Message.TheVariants.{ToReplica, ToClient}
use Rattle.world_steps.specs.Configs.{Config}
use Rattle.world_steps.specs.Moves.{Moves}
use Rattle.world_steps.specs.Refusals.{refusal_of, no_such_client}
use Rattle.world_steps.specs.Runs.{next, after_from, after}
use Rattle.world_steps.specs.SoundSystems.{Flies, IsSound}
use Rattle.world_steps.specs.Systems.{opening, arrive, deliver, join, invoke, respond, system_after}
use Rattle.world_steps.specs.declared.effect.Effect.{Effect}
use Rattle.world_steps.specs.declared.effect.Effect.TheVariants as effect
use Rattle.world_steps.specs.declared.refusal.Refusal.{Refusal}
use Rattle.world_steps.specs.declared.step.Step.{Step}
use Rattle.world_steps.specs.declared.step.Step.TheVariants as step
use Rattle.world_steps.specs.declared.system.System.{System}
use Rattle.world_steps.proofs.Finding.{flies}
use Rattle.world_steps.proofs.ReplicaSound.{handle_sound, set_up_sound}
use Rattle.tag.proofs.Options.{none_from_is_none}
use Rattle.world_steps.proofs.OpeningSound.{opening_sound}
use Rattle.world_steps.proofs.Passed.{passed, invoke_passed, replica_there, respond_passed}
use Rattle.world_steps.proofs.Sending.{send_sound, lose_sound, repeat_sound}
use Rattle.world_steps.proofs.ReplySound.{take_sound}
use Rattle.world_steps.proofs.ClientSound.{join_sound, invoke_sound, respond_sound, stop_sound}

module _ (s : System) (sound : IsSound s) where
  joined_sound : (name : ℕ) → refusal_of s (step.Join name) ≡ None → IsSound (join s name)
  joined_sound name none = join_sound s sound name (none_from_is_none (finite.get s.members.clients name) (not-false (no_such_client s name) (passed _ _ _ none).0))

  asked_sound : (name : ℕ) (key : List ℕ) (action : Action) → refusal_of s (step.Invoke name key action) ≡ None → IsSound (invoke s name key action (finite.get s.members.clients name))
  asked_sound name key action none =
      let (client, is, idle, room) = invoke_passed s name key action none in
      invoke_sound s sound name key action client is idle room

  answered_sound : (name : ℕ) → refusal_of s (step.Respond name) ≡ None → IsSound (respond s name (finite.get s.members.clients name))
  answered_sound name none =
      let (client, chosen, is, ready) = respond_passed s name none in
      respond_sound s sound name client chosen is ready

  -- ---- a message comes, and a copy of it goes
  pub arrive_sound : (message : Message) → Flies s.pool.flights message → IsSound (arrive s message)
  arrive_sound (ToReplica number request) f = handle_sound s sound number request f
  arrive_sound (ToClient name reply) f = take_sound s sound name reply f

  delivered_sound : (flight : ℕ) (found : Option Message) → message_of s.pool.flights flight ≡ found → IsSound (deliver s flight found)
  delivered_sound flight None is = sound
  delivered_sound flight (Some message) is = lose_sound (arrive s message) (arrive_sound message (flies s flight message is)) flight

-- ---- every step that isn't refused
pub moved_sound : (s : System) (step : Step) → IsSound s → refusal_of s step ≡ None → IsSound (system_after s step)
moved_sound s (step.Join name) sound none = joined_sound s sound name none
moved_sound s (step.Invoke name key action) sound none = asked_sound s sound name key action none
moved_sound s (step.Send name replica) sound none = send_sound s sound name replica (replica_there s replica (passed _ _ _ none).0)
moved_sound s (step.Deliver flight) sound none = delivered_sound s sound flight (message_of s.pool.flights flight) refl
moved_sound s (step.Lose flight) sound none = lose_sound s sound flight
moved_sound s (step.Repeat flight) sound none = repeat_sound s sound flight
moved_sound s (step.Respond name) sound none = answered_sound s sound name none
moved_sound s (step.StopClient name) sound none = stop_sound s sound name
moved_sound s (step.StopReplica number) sound none = set_up_sound s sound number false
moved_sound s (step.StartReplica number) sound none = set_up_sound s sound number true

-- so does one that was refused for memory
pub moves_sound : (s : System) (step : Step) (result : Result Effect Memory) (new : System) → IsSound s → refusal_of s step ≡ None
    → Moves s step result new → IsSound new
moves_sound s step (Ok effect) new sound none moved = subst IsSound (sym moved.1) (moved_sound s step sound none)
moves_sound s step (Err why) new sound none kept = subst IsSound (sym kept.1) sound

-- and so does a response
pub responded_sound : (s : System) (name : ℕ) (result : Result (OpId × Returned) Memory) (new : System) → IsSound s
    → refusal_of s (step.Respond name) ≡ None
    → IfOk result (λ answer. Moves s (step.Respond name) (Ok (effect.Responded answer.0)) new) → OnErr result (new ≡ s) → IsSound new
responded_sound s name (Ok answer) new sound none moved kept = subst IsSound (sym moved.1) (moved_sound s (step.Respond name) sound none)
responded_sound s name (Err why) new sound none moved kept = subst IsSound (sym kept) sound

-- ---- every step, and every list of steps
next_by : (s : System) (step : Step) (found : Option Refusal) → IsSound s → refusal_of s step ≡ found → IsSound (cond (is_some found) s (system_after s step))
next_by s step (Some why) sound is = sound
next_by s step None sound is = moved_sound s step sound is

pub next_sound : (s : System) (step : Step) → IsSound s → IsSound (next s step)
next_sound s step sound = next_by s step (refusal_of s step) sound refl

pub after_from_sound : (s : System) (steps : List Step) → IsSound s → IsSound (after_from s steps)
after_from_sound s [] sound = sound
after_from_sound s (step ∷ steps) sound = after_from_sound (next s step) steps (next_sound s step sound)

pub after_sound : (config : Config) (steps : List Step) → IsLawful config.quorums → config.calls ≤ 1000000 → IsSound (after config steps)
after_sound config steps lawful calls = after_from_sound (opening config) steps (opening_sound config lawful calls)
