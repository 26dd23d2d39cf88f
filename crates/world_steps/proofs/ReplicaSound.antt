-- Replicas that handle requests, stop and start keep the system sound.
use Rattle.std.proofs.Common.{◌≡◌, ℕ, ◌<◌, ◌⊎◌, Bool, length, length-set, List, Option, None, Some, refl, sym, ◌∙◌, ap, subst, inl, inr, slice_get, slice_set}
use Rattle.std.proofs.Math.Path.{fun_ext}
use Rattle.std.proofs.lemmas.Option.{slice_get_within}
use Rattle.std.specs.FinMap as finite
use Rattle.tag.specs.declared.numbers.OpId.{OpId}
use Rattle.quorum.specs.Quorums.{Quorums}
use Rattle.replica.specs.Pairs.{Pairs, pair_of, adopt}
use Rattle.replica.specs.Replicas.{reply_of}
use Rattle.replica.specs.declared.pairs.Pair.{Pair}
use Rattle.replica.specs.declared.replies.Reply.{Reply}
use Rattle.replica.specs.declared.replies.Reply.TheVariants.{Held, Kept}
use Rattle.replica.specs.declared.requests.Request.{Request}
use Rattle.replica.specs.declared.requests.Request.TheVariants.{Query, Put}
use Rattle.replica.proofs.Insertions.{pair_of-adopt_other, same_key_or_not}
use Rattle.client_phases.specs.Asking.{newer}
use Rattle.client_phases.specs.declared.clients.Client.{Client}
use Rattle.client_phases.specs.declared.states.State.{State}
use Rattle.network.specs.Pools.{Pool, with_sent}
use Rattle.network.specs.declared.messages.Message.{Message}
use Rattle.network.specs.declared.messages.Message.TheVariants.{ToReplica, ToClient}
use Rattle.recorder.specs.Histories.{caller_of}
use Rattle.recorder.specs.declared.row.Row.{Row}
use Rattle.world_steps.specs.Sound.{Invoked, MessageSound, Sound, tags_of}
use Rattle.world_steps.specs.Sound.MessageSound.{SoundQuery, SoundPut}
use Rattle.world_steps.specs.SoundSystems.{Flies, IsIn, IsSound, held_in, pair_in}
use Rattle.world_steps.specs.Systems.{handle, op_of, set_up}
use Rattle.world_steps.specs.declared.nodes.Node.{Node}
use Rattle.world_steps.specs.declared.system.System.{System}
use Rattle.world_steps.proofs.Callers.{caller_found}
use Rattle.world_steps.proofs.Flying.{flies_sent}
use Rattle.tag.proofs.Lists.{slice_get-set}
use Rattle.world_steps.proofs.SameRows.{queried, adopting, Adopted, pair_of-adopt}
use Rattle.world_steps.proofs.SameRows.Adopted.{Same, Changed}

-- ---- what replicas hold, once one is written
same_node : (a b : Node) → Some a ≡ Some b → a ≡ b
same_node a b e = cc

-- what is read of the new element as of the old one is read at each place as before
pub read_alike : {X Y : Type 0} (f : Option X → Y) (xs : List X) (i : ℕ) (old new : X) → slice_get xs i ≡ Some old → f (Some new) ≡ f (Some old)
    → (k : ℕ) → f (slice_get (slice_set xs i new) k) ≡ f (slice_get xs k)
read_alike f xs i old new is same k =
    elim (slice_get-set xs i k new (slice_get_within xs i old is)) [
      | inl here ↦ ap f here.1 ∙ same ∙ sym (ap f is) ∙ ap (λ n. f (slice_get xs n)) (sym here.0)
      | inr there ↦ ap f there.1
    ]

-- with the same pairs all hold what they held
pub held_same : (nodes : List Node) (number : ℕ) (old new : Node) → slice_get nodes number ≡ Some old → new.replica.pairs ≡ old.replica.pairs
    → (r : ℕ) (k : List ℕ) → held_in nodes r k ≡ held_in (slice_set nodes number new) r k
held_same nodes number old new is same r k =
    sym (read_alike (λ o. pair_in o k) nodes number old new is (ap (λ (p : Pairs). pair_of p k) same) r)

pub same_pairs : (quorums : Quorums) (R : List Row) (P Q : ℕ → List ℕ → Pair) (F : Message → Type 0) (C : ℕ → State → Type 0) → ((r : ℕ) (k : List ℕ) → P r k ≡ Q r k) → Sound quorums R P F C → Sound quorums R Q F C
same_pairs quorums R P Q F C e sound = subst (λ S. Sound quorums R S F C) (fun_ext (λ r. fun_ext (λ k. e r k))) sound

module _ (nodes : List Node) (number : ℕ) (node : Node) (key : List ℕ) (pair : Pair) (is : slice_get nodes number ≡ Some node) where
  -- the node that adopts the pair, and all nodes then
  abbrev adopter : Node
  adopter = record node { replica = record { number = node.replica.number; pairs = adopt node.replica.pairs key pair } }

  abbrev adopted : List Node
  adopted = slice_set nodes number adopter

  pub adopted_at : (r : ℕ) (k : List ℕ) → Adopted (held_in nodes) number key pair r k (held_in adopted r k)
  adopted_at r k =
      elim (slice_get-set nodes number r adopter (slice_get_within nodes number node is)) [
        | inl here ↦
            let now : held_in adopted r k ≡ pair_of (adopt node.replica.pairs key pair) k = ap (λ o. pair_in o k) here.1 in
            elim (same_key_or_not k key) [
              | inl same ↦
                  Changed here.0 same
                  (now ∙ ap (pair_of (adopt node.replica.pairs key pair)) same ∙ pair_of-adopt node.replica.pairs key pair ∙ ap (λ p. newer p pair) (sym (ap (λ o. pair_in o key) is)))
              | inr other ↦
                  Same (now ∙ pair_of-adopt_other node.replica.pairs key k pair other ∙ sym (ap (λ o. pair_in o k) is) ∙ ap (λ n. held_in nodes n k) (sym here.0))
            ]
        | inr there ↦ Same (ap (λ o. pair_in o k) there.1)
      ]

  adopted_there : held_in adopted number key ≡ newer (held_in nodes number key) pair
  adopted_there =
      elim (slice_get-set nodes number number adopter (slice_get_within nodes number node is)) [
        | inl here ↦ ap (λ o. pair_in o key) here.1 ∙ pair_of-adopt node.replica.pairs key pair ∙ ap (λ p. newer p pair) (sym (ap (λ o. pair_in o key) is))
        | inr there ↦ absurd (there.0 refl)
      ]

module _ (s : System) (sound : IsSound s) where
  -- the system with a node written
  written_system : (number : ℕ) (node new : Node) (pool : Pool) → pool.limit ≡ s.pool.limit → slice_get s.nodes number ≡ Some node → new.replica.number ≡ node.replica.number
      → ((n : ℕ) (request : Request) → Flies pool.flights (ToReplica n request) → n < length s.nodes)
      → ((name : ℕ) (reply : Reply) → Flies pool.flights (ToClient name reply) → (client : Client) × (finite.get s.members.clients name ≡ Some client))
      → Sound s.config.quorums s.history.rows (held_in (slice_set s.nodes number new)) (Flies pool.flights) (IsIn s.members.clients)
      → IsSound (record s { nodes = slice_set s.nodes number new; pool = pool })
  written_system number node new pool limit is same to_replicas to_clients good = record {
    sound = good;
    ruled = sound.ruled;
    waiting = sound.waiting;
    numbered = λ n found at.
        elim (slice_get-set s.nodes number n new (slice_get_within s.nodes number node is)) [
          | inl here ↦ ap (λ (x : Node). x.replica.number) (same_node found new (sym at ∙ here.1)) ∙ same ∙ sound.numbered number node is ∙ sym here.0
          | inr there ↦ sound.numbered n found (sym there.1 ∙ at)
        ];
    to_replicas = λ n request f. subst (λ m. n < m) (sym (length-set s.nodes number new)) (to_replicas n request f);
    to_clients = to_clients;
    calls = sound.calls;
    limit = sound.limit;
    named = sound.named;
    configured = record {
      replicas = length-set s.nodes number new ∙ sound.configured.replicas;
      flights = limit ∙ sound.configured.flights;
      calls = sound.configured.calls;
    };
  }

  -- ---- a replica handles a request, and its reply is sent to the client that made the call
  same_to : (c d : ℕ) (a b : Reply) → ToClient c a ≡ ToClient d b → c ≡ d
  same_to c d a b e = cc

  answered_system : (number : ℕ) (node new : Node) (to : ℕ) (reply : Reply) → slice_get s.nodes number ≡ Some node → new.replica.number ≡ node.replica.number
      → (client : Client) × (finite.get s.members.clients to ≡ Some client)
      → Sound s.config.quorums s.history.rows (held_in (slice_set s.nodes number new)) (Flies (with_sent s.pool (ToClient to reply)).flights) (IsIn s.members.clients)
      → IsSound (record s { nodes = slice_set s.nodes number new; pool = with_sent s.pool (ToClient to reply) })
  answered_system number node new to reply is same member good =
      let was : (message : Message) → Flies (with_sent s.pool (ToClient to reply)).flights message → Flies s.pool.flights message ⊎ (message ≡ ToClient to reply) = flies_sent s.pool (ToClient to reply) in
      written_system number node new (with_sent s.pool (ToClient to reply)) refl is same
      (λ n request f. elim (was (ToReplica n request) f) [ inl old ↦ sound.to_replicas n request old | inr now ↦ absurd cc ])
      (λ name other f. elim (was (ToClient name other) f) [
        | inl old ↦ sound.to_clients name other old
        | inr now ↦ subst (λ n. (client : Client) × (finite.get s.members.clients n ≡ Some client)) (sym (same_to name to other reply now)) member
      ])
      good

  -- who made a begun call joined
  caller_joined : (op : OpId) (key : List ℕ) (to : ℕ) → Invoked s.history.rows op key → caller_of s.history.rows op ≡ Some to → (client : Client) × (finite.get s.members.clients to ≡ Some client)
  caller_joined op key to i e =
      let found : caller_of s.history.rows op ≡ Some i.client = caller_found s.history.rows sound.sound.recorded op key i in
      let same : i.client ≡ to = cc in
      let (state, there) = sound.sound.joined i.place op i.client key i.action i.is in
      subst (λ n. (client : Client) × (finite.get s.members.clients n ≡ Some client)) same (record { rules = there.rules; state = state }, there.is)

  handled : (number : ℕ) (request : Request) (node : Node) (to : ℕ) → slice_get s.nodes number ≡ Some node → caller_of s.history.rows (op_of request) ≡ Some to
      → MessageSound s.history.rows (tags_of (held_in s.nodes)) (ToReplica number request) → IsSound (handle s number request (Some node) (Some to))
  handled number (Query op key) node to is caller (SoundQuery i) =
      let reply : Reply = reply_of node.replica (Query op key) in
      let pool : Pool = with_sent s.pool (ToClient to reply) in
      let tells : ToClient to reply ≡ ToClient to (Held op number (held_in s.nodes number key).tag (held_in s.nodes number key).value) =
      ap (λ n. ToClient to (Held op n (pair_of node.replica.pairs key).tag (pair_of node.replica.pairs key).value)) (sound.numbered number node is)
      ∙ ap (λ o. ToClient to (Held op number (pair_in o key).tag (pair_in o key).value)) (sym is) in
      answered_system number node node to reply is refl (caller_joined op key to i caller)
      (same_pairs s.config.quorums s.history.rows (held_in s.nodes) (held_in (slice_set s.nodes number node)) (Flies pool.flights) (IsIn s.members.clients) (held_same s.nodes number node node is refl)
      (queried s.config.quorums s.history.rows (held_in s.nodes) (Flies s.pool.flights) (Flies pool.flights) (IsIn s.members.clients) to op number key sound.sound i
      (λ message f. elim (flies_sent s.pool (ToClient to reply) message f) [ inl old ↦ inl old | inr now ↦ inr (now ∙ tells) ])))
  handled number (Put op key tag value) node to is caller (SoundPut i n g) =
      let pair : Pair = record { tag = tag; value = value } in
      let reply : Reply = reply_of node.replica (Put op key tag value) in
      let pool : Pool = with_sent s.pool (ToClient to reply) in
      let tells : ToClient to reply ≡ ToClient to (Kept op number) = ap (λ m. ToClient to (Kept op m)) (sound.numbered number node is) in
      answered_system number node (adopter s.nodes number node key pair is) to reply is refl (caller_joined op key to i caller)
      (adopting s.config.quorums s.history.rows (held_in s.nodes) (held_in (adopted s.nodes number node key pair is)) (Flies s.pool.flights) (Flies pool.flights) (IsIn s.members.clients) to op number key pair sound.sound i n g
      (adopted_at s.nodes number node key pair is) (adopted_there s.nodes number node key pair is)
      (λ message f. elim (flies_sent s.pool (ToClient to reply) message f) [ inl old ↦ inl old | inr now ↦ inr (now ∙ tells) ]))

  handled_found : (number : ℕ) (request : Request) (found : Option Node) (caller : Option ℕ) → slice_get s.nodes number ≡ found → caller_of s.history.rows (op_of request) ≡ caller
      → MessageSound s.history.rows (tags_of (held_in s.nodes)) (ToReplica number request) → IsSound (handle s number request found caller)
  handled_found number request (Some node) (Some to) is caller good = handled number request node to is caller good
  handled_found number request (Some node) None is caller good = sound
  handled_found number request None caller is made good = sound

  pub handle_sound : (number : ℕ) (request : Request) → Flies s.pool.flights (ToReplica number request)
      → IsSound (handle s number request (slice_get s.nodes number) (caller_of s.history.rows (op_of request)))
  handle_sound number request f =
      handled_found number request (slice_get s.nodes number) (caller_of s.history.rows (op_of request)) refl refl (sound.sound.messages (ToReplica number request) f)

  -- ---- a replica goes up or down with what it stored
  set_up_found : (number : ℕ) (is_up : Bool) (found : Option Node) → slice_get s.nodes number ≡ found → IsSound (set_up s number is_up found)
  set_up_found number is_up None is = sound
  set_up_found number is_up (Some node) is =
      let new : Node = record node { is_up = is_up } in
      written_system number node new s.pool refl is refl sound.to_replicas sound.to_clients
      (same_pairs s.config.quorums s.history.rows (held_in s.nodes) (held_in (slice_set s.nodes number new)) (Flies s.pool.flights) (IsIn s.members.clients) (held_same s.nodes number node new is refl) sound.sound)

  pub set_up_sound : (number : ℕ) (is_up : Bool) → IsSound (set_up s number is_up (slice_get s.nodes number))
  set_up_sound number is_up = set_up_found number is_up (slice_get s.nodes number) refl
