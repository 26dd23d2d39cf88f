-- What the network does by itself, and what clients send, keeps the system sound.
use Rattle.std.proofs.Common.{◌≡◌, ℕ, ◌<◌, ◌⊎◌, length, Option, None, Some, refl, sym, subst, inl, inr, ◌∙◌}
use Rattle.std.specs.FinMap as finite
use Rattle.replica.specs.declared.requests.Request.{Request}
use Rattle.client_phases.specs.Asking.{query_of}
use Rattle.client_phases.specs.Calls.{put_of}
use Rattle.client_phases.specs.declared.clients.Client.{Client}
use Rattle.client_phases.specs.declared.rules.Rules.{Rules}
use Rattle.client_phases.specs.declared.states.State.{State}
use Rattle.network.specs.Pools.{Pool, with_sent, with_one_less, with_one_more}
use Rattle.network.specs.declared.messages.Message.{Message}
use Rattle.network.specs.declared.messages.Message.TheVariants.{ToReplica, ToClient}
use Rattle.world_steps.specs.Sound.{MessageSound, StateSound, tags_of}
use Rattle.world_steps.specs.Sound.MessageSound.{SoundQuery, SoundPut}
use Rattle.world_steps.specs.Sound.StateSound.{SoundIdle, SoundAsking, SoundPutting, SoundReady, SoundStopped}
use Rattle.world_steps.specs.SoundSystems.{Flies, IsIn, IsSound, held_in}
use Rattle.world_steps.specs.Systems.{lose, repeat, send}
use Rattle.world_steps.specs.declared.system.System.{System}
use Rattle.world_steps.proofs.Flying.{flies_sent, flies_less, flies_more}
use Rattle.world_steps.proofs.SameRows.{thinned, requested}

module _ (s : System) (sound : IsSound s) where
  -- ---- copies go, or more copies of what flies
  thinned_system : (pool : Pool) → pool.limit ≡ s.pool.limit → ((message : Message) → Flies pool.flights message → Flies s.pool.flights message) → IsSound (record s { pool = pool })
  thinned_system pool limit less = record {
    sound = thinned s.config.quorums s.history.rows (held_in s.nodes) (Flies s.pool.flights) (Flies pool.flights) (IsIn s.members.clients) sound.sound less;
    ruled = sound.ruled;
    waiting = sound.waiting;
    numbered = sound.numbered;
    to_replicas = λ number request f. sound.to_replicas number request (less (ToReplica number request) f);
    to_clients = λ name reply f. sound.to_clients name reply (less (ToClient name reply) f);
    calls = sound.calls;
    limit = sound.limit;
    named = sound.named;
    configured = record { replicas = sound.configured.replicas; flights = limit ∙ sound.configured.flights; calls = sound.configured.calls };
  }

  pub lose_sound : (flight : ℕ) → IsSound (lose s flight)
  lose_sound flight = thinned_system (with_one_less s.pool flight) refl (flies_less s.pool flight)

  pub repeat_sound : (flight : ℕ) → IsSound (repeat s flight)
  repeat_sound flight = thinned_system (with_one_more s.pool flight) refl (flies_more s.pool flight)

  -- ---- a client's request is sent
  same_replica : (i j : ℕ) (a b : Request) → ToReplica i a ≡ ToReplica j b → i ≡ j
  same_replica i j a b e = cc

  sent_system : (replica : ℕ) (request : Request) → replica < length s.nodes → MessageSound s.history.rows (tags_of (held_in s.nodes)) (ToReplica replica request)
      → IsSound (record s { pool = with_sent s.pool (ToReplica replica request) })
  sent_system replica request there good =
      let pool : Pool = with_sent s.pool (ToReplica replica request) in
      let was : (message : Message) → Flies pool.flights message → Flies s.pool.flights message ⊎ (message ≡ ToReplica replica request) = flies_sent s.pool (ToReplica replica request) in
      record {
        sound = requested s.config.quorums s.history.rows (held_in s.nodes) (Flies s.pool.flights) (Flies pool.flights) (IsIn s.members.clients) replica request sound.sound good was;
        ruled = sound.ruled;
        waiting = sound.waiting;
        numbered = sound.numbered;
        to_replicas = λ number other f.
            elim (was (ToReplica number other) f) [
              | inl old ↦ sound.to_replicas number other old
              | inr new ↦ subst (λ n. n < length s.nodes) (sym (same_replica number replica other request new)) there
            ];
        to_clients = λ name reply f. elim (was (ToClient name reply) f) [ inl old ↦ sound.to_clients name reply old | inr new ↦ absurd cc ];
        calls = sound.calls;
        limit = sound.limit;
        named = sound.named;
        configured = record { replicas = sound.configured.replicas; flights = sound.configured.flights; calls = sound.configured.calls };
      }

  sent_by : (name replica : ℕ) (rules : Rules) (state : State) → StateSound s.config.quorums s.history.rows (tags_of (held_in s.nodes)) name state → replica < length s.nodes
      → IsSound (send s replica (Some (record { rules = rules; state = state })))
  sent_by name replica rules state (SoundAsking {asking = asking} w n g h) there =
      sent_system replica (query_of asking) there (SoundQuery (record { place = w.place; client = name; action = asking.call.action; is = w.is }))
  sent_by name replica rules state (SoundPutting {chosen = chosen} w n g h) there =
      sent_system replica (put_of chosen) there (SoundPut (record { place = w.place; client = name; action = chosen.call.action; is = w.is }) n g)
  sent_by name replica rules state (SoundIdle done) there = sound
  sent_by name replica rules state (SoundReady w n g h) there = sound
  sent_by name replica rules state SoundStopped there = sound

  sent_found : (name replica : ℕ) (found : Option Client) → finite.get s.members.clients name ≡ found → replica < length s.nodes → IsSound (send s replica found)
  sent_found name replica None is there = sound
  sent_found name replica (Some client) is there = sent_by name replica client.rules client.state (sound.sound.states name client.state (record { rules = client.rules; is = is })) there

  pub send_sound : (name replica : ℕ) → replica < length s.nodes → IsSound (send s replica (finite.get s.members.clients name))
  send_sound name replica there = sent_found name replica (finite.get s.members.clients name) refl there
