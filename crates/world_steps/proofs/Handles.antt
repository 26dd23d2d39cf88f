-- What a replica's handling leaves, and how a send is taken back.
use Rattle.std.proofs.Common.{◌≡◌, ◌≢◌, ℕ, ◌+◌, ◌-◌, ◌<◌, Bool, true, false, List, Option, Some, None, Result, Ok, Err, is_err, length, slice_get, slice_set, inl, inr, refl, sym, ap, subst, ◌∙◌, arith, cond}
use Rattle.std.specs.Prelude.{OnOk, OnSome, OnErr, IsSome}
use Rattle.std.proofs.lemmas.Option.{same_Some, slice_get_cases}
use Rattle.std.specs.Option.{option_map_or}
use Rattle.std.specs.Prelude.{option_map}
use Rattle.std.specs.Ordering.{nat_cmp, eq_by_cmp, is_eq}
use Rattle.std.specs.Cmp.{nat_cmp_total, tied_itself}
use Rattle.std.specs.FinMap as finite
use Rattle.tag.proofs.Lists.{set_same}
use Rattle.tag.specs.declared.numbers.OpId.{OpId}
use Rattle.tag.specs.declared.tags.Tag.{Tag}
use Rattle.recorder.specs.Histories.{caller_of}
use Rattle.replica.specs.Replicas.{Replica, replica_after, reply_of}
use Rattle.replica.specs.declared.replies.Reply.{Reply}
use Rattle.replica.specs.declared.replies.Reply.TheVariants.{Kept}
use Rattle.replica.specs.declared.requests.Request.{Request}
use Rattle.replica.specs.declared.requests.Request.TheVariants.{Query, Put}
use Rattle.network.specs.Flights.{IsMessageOf, copies_of}
use Rattle.network.specs.declared.flights.Flight.{Flight}
use Rattle.network.specs.Pools.{IsBag, Pool, with_sent, without_last}
use Rattle.network.specs.declared.messages.Message.{Message}
use Rattle.network.specs.declared.messages.Message.TheVariants.{ToReplica, ToClient}
use Rattle.network.proofs.Lookups.{get_other}
use Rattle.network.proofs.Unsending.{unsent-sent}
use Rattle.world_steps.specs.Moves.{MayArrive, MayHandle}
use Rattle.world_steps.specs.Systems.{arrive, handle, op_of, set_up}
use Rattle.world_steps.specs.declared.nodes.Node.{Node}
use Rattle.world_steps.specs.declared.system.System.{System}

pub on_err : {T E P : Type 0} (r : Result T E) → is_err r ≡ true → OnErr r P → P
on_err (Ok x) e h = absurd cc
on_err (Err x) e h = h

pub on_some : {T P : Type 0} (o : Option T) → IsSome o → OnSome o P → P
on_some None e h = absurd cc
on_some (Some x) e h = h

-- a query leaves the replicas
pub told_same : (nodes : List Node) (number : ℕ) (node : Node) (request : Request) (op : OpId) (key : List ℕ) → request ≡ Query op key → slice_get nodes number ≡ Some node
    → slice_set nodes number (record node { replica = replica_after node.replica request }) ≡ nodes
told_same nodes number node request op key e at =
    ap (λ r. slice_set nodes number (record node { replica = replica_after node.replica r })) e ∙ set_same nodes number node at

-- what was sent has one copy
pub sent_once : (pool : Pool) (message : Message) → copies_of (with_sent pool message).flights ((pool.sent + 1) - 1) ≡ 1
sent_once pool message =
    let last : (pool.sent + 1) - 1 ≡ pool.sent = omega arith in
    let one : Flight = record { message = message; copies = 1 } in
    let tied : eq_by_cmp nat_cmp pool.sent pool.sent ≡ true = ap is_eq (tied_itself nat_cmp_total pool.sent) in
    let here : finite.get (with_sent pool message).flights pool.sent ≡ Some one =
    finite.get-insert nat_cmp_total pool.flights pool.sent one pool.sent ∙ ap (λ b. cond b (Some one) (finite.get pool.flights pool.sent)) tied in
    ap (copies_of (with_sent pool message).flights) last ∙ ap (λ o. option_map_or (λ (flight : Flight). flight.copies) o 0) here

-- a send that is taken back leaves the system
pub unsent_system : (s after : System) (message : Message) (nodes : List Node) (pool : Pool) → after ≡ record s { pool = with_sent s.pool message }
    → nodes ≡ after.nodes → pool ≡ without_last after.pool → IsBag s.pool
    → ◌≡◌ {A = System} (record { config = after.config; members = after.members; nodes = nodes; pool = pool; history = after.history }) s
unsent_system s after message nodes pool p n u bag =
    subst (λ (a : System). nodes ≡ a.nodes → pool ≡ without_last a.pool → ◌≡◌ {A = System} (record { config = a.config; members = a.members; nodes = nodes; pool = pool; history = a.history }) s) (sym p)
    (λ same back. let pools : pool ≡ s.pool = back ∙ unsent-sent s.pool message bag in λ i. record { config = s.config; members = s.members; nodes = same i; pool = pools i; history = s.history })
    n u

-- a replica that goes up or down
pub set_up_is : (s : System) (number : ℕ) (is_up : Bool) (nodes : List Node) → number < length s.nodes
    → ((node : Node) → slice_get s.nodes number ≡ Some node → nodes ≡ slice_set s.nodes number (record node { is_up = is_up }))
    → ◌≡◌ {A = System} (record s { nodes = nodes }) (set_up s number is_up (slice_get s.nodes number))
set_up_is s number is_up nodes h became =
    elim (slice_get_cases s.nodes number).1 [
      | inl w ↦ ap (λ (n : List Node). let x : System = record s { nodes = n } in x) (became w.0 w.2) ∙ sym (ap (set_up s number is_up) w.2)
      | inr w ↦ absurd (omega (arith, w.0))
    ]

there : (o : Option Flight) (message : Message) → option_map (λ (f : Flight). f.message) o ≡ Some message → (f : Flight) × (o ≡ Some f)
there None message is = absurd cc
there (Some f) message is = (f, refl)

-- a flight that is there stays, whatever is sent
pub still_there : (pool : Pool) (sent message : Message) (flight : ℕ) → IsBag pool → IsMessageOf pool.flights flight message
    → IsMessageOf (with_sent pool sent).flights flight message
still_there pool sent message flight bag is =
    let f = there (finite.get pool.flights flight) message is in
    let below : flight < pool.sent = bag.given flight f.0 f.1 in
    let apart : flight ≢ pool.sent = λ e. let same : flight ≡ pool.sent = e in omega arith in
    let one : Flight = record { message = sent; copies = 1 } in
    ap (option_map (λ (f : Flight). f.message)) (get_other pool.flights pool.sent one flight apart) ∙ is

pub on_ok : {T E P : Type 0} (r : Result T E) → is_err r ≡ false → OnOk r P → P
on_ok (Ok x) e h = h
on_ok (Err x) e h = absurd cc

-- a request that is the one that may be handled
pub served : (s : System) (number n : ℕ) (request r : Request) → ToReplica n r ≡ ToReplica number request → MayHandle s number request → MayHandle s n r
served s number n request r e h = subst (MayArrive s) (sym e) h

-- what a replica answers to a put
pub kept_is : (replica : Replica) (number : ℕ) (request : Request) (op : OpId) (key : List ℕ) (tag : Tag) (value : Option (List ℕ)) → request ≡ Put op key tag value
    → replica.number ≡ number → Kept op number ≡ reply_of replica request
kept_is replica number request op key tag value e numbered = ap (Kept op) (sym numbered) ∙ ap (reply_of replica) (sym e)

-- the system after a request was handled and its reply sent
pub handled : (s : System) (number : ℕ) (request : Request) (h : MayHandle s number request) (client : ℕ) (reply : Reply) → Some client ≡ caller_of s.history.rows (op_of request)
    → reply ≡ reply_of h.node.replica request
    → ◌≡◌ {A = System} (record s { nodes = slice_set s.nodes number (record h.node { replica = replica_after h.node.replica request }); pool = with_sent s.pool (ToClient client reply) })
    (arrive s (ToReplica number request))
handled s number request h client reply made told =
    let called : client ≡ h.client = same_Some client h.client (made ∙ h.caller) in
    let nodes : List Node = slice_set s.nodes number (record h.node { replica = replica_after h.node.replica request }) in
    (λ i. record { config = s.config; members = s.members; nodes = nodes; pool = with_sent s.pool (ToClient (called i) (told i)); history = s.history })
    ∙ sym (λ i. handle s number request (h.is i) (h.caller i))
