-- Flights that were sent earlier keep their copies.
use Rattle.std.proofs.Common.{◌≡◌, ◌≢◌, ℕ, ◌<◌, ◌≤◌, ◌==◌, ◌-◌, Bool, true, false, cond, is_some, List, [], ◌∷◌, ◌++◌, Option, None, Some, refl, ◌∙◌, ap, arith}
use Rattle.std.specs.FinMap as finite
use Rattle.std.specs.Option.{option_map_or}
use Rattle.replica.specs.declared.replies.Reply.{Reply}
use Rattle.replica.specs.declared.requests.Request.{Request}
use Rattle.client_phases.specs.Clients.{request_of}
use Rattle.client_phases.specs.declared.clients.Client.{Client}
use Rattle.client_phases.specs.declared.rules.Rules.{Rules}
use Rattle.client_phases.specs.declared.states.State.{State}
use Rattle.client_phases.specs.declared.states.State.TheVariants.{Idle, Ask, Put, Ready, Stopped}
use Rattle.network.specs.Flights.{Flights, copies_of, message_of, one_less, with_copies}
use Rattle.network.specs.Pools.{Pool, with_sent, with_one_less}
use Rattle.network.specs.declared.flights.Flight.{Flight}
use Rattle.network.specs.declared.messages.Message.{Message}
use Rattle.network.specs.declared.messages.Message.TheVariants.{ToReplica, ToClient}
use Rattle.world_steps.specs.Refusals.{refusal_of}
use Rattle.world_steps.specs.Runs.{next, after_from}
use Rattle.world_steps.specs.Systems.{system_after, send, send_to, deliver, arrive, handle, take, respond}
use Rattle.world_steps.specs.declared.nodes.Node.{Node}
use Rattle.world_steps.specs.declared.refusal.Refusal.{Refusal}
use Rattle.world_steps.specs.declared.step.Step.{Step}
use Rattle.world_steps.specs.declared.step.Step.TheVariants as step
use Rattle.world_steps.specs.declared.system.System.{System}
use Rattle.world_settle.specs.Settling.{AreSettleSteps, round}
use Rattle.world_settle.specs.Settling.AreSettleSteps.{answers, asks}
use Rattle.world_settle.specs.SettleAnswers.{KeepsEarlier}
use Rattle.network.proofs.Lookups.{get_other, removed_other}

-- a pool with no fewer messages sent, where those before a number keep their copies
pub record Keeps (n : ℕ) (old new : Pool) : Type 0 where
  pub sent : old.sent ≤ new.sent
  pub copies : (flight : ℕ) → flight < n → copies_of new.flights flight ≡ copies_of old.flights flight

keeps_itself : (n : ℕ) (pool : Pool) → Keeps n pool pool
keeps_itself n pool = record { sent = omega arith; copies = λ flight less. refl }

keeps_on : (n : ℕ) (a b c : Pool) → Keeps n a b → Keeps n b c → Keeps n a c
keeps_on n a b c p q =
    let first = p.sent in
    let second = q.sent in
    record { sent = omega (arith, first, second); copies = λ flight less. q.copies flight less ∙ p.copies flight less }

keeps_sent : (n : ℕ) (pool : Pool) (message : Message) → n ≤ pool.sent → Keeps n pool (with_sent pool message)
keeps_sent n pool message h = record {
  sent = omega arith;
  copies = λ flight less. ap (λ o. option_map_or (λ (f : Flight). f.copies) o 0) (get_other pool.flights pool.sent (record { message = message; copies = 1 }) flight (λ e. omega arith));
}

less_by : (flights : Flights) (number : ℕ) (flight : Flight) (last : Bool) (q : ℕ) → q ≢ number
    → finite.get (cond last (finite.remove flights number) (with_copies flights number flight.message (flight.copies - 1))) q ≡ finite.get flights q
less_by flights number flight true q ne = removed_other flights number q ne
less_by flights number flight false q ne = get_other flights number (record { message = flight.message; copies = flight.copies - 1 }) q ne

less_found : (flights : Flights) (number : ℕ) (found : Option Flight) (q : ℕ) → q ≢ number → finite.get (one_less flights number found) q ≡ finite.get flights q
less_found flights number None q ne = refl
less_found flights number (Some flight) q ne = less_by flights number flight (flight.copies == 1) q ne

keeps_less : (n : ℕ) (pool : Pool) (number : ℕ) → n ≤ number → Keeps n pool (with_one_less pool number)
keeps_less n pool number h = record {
  sent = omega arith;
  copies = λ flight less. ap (λ o. option_map_or (λ (f : Flight). f.copies) o 0) (less_found pool.flights number (finite.get pool.flights number) flight (λ e. omega arith));
}

-- ---- a step that sends, delivers a flight from that number on, or responds
abbrev pub IsLater : ℕ → Step → Type 0
IsLater n (step.Send name replica) = Unit {0}
IsLater n (step.Deliver flight) = n ≤ flight
IsLater n (step.Respond name) = Unit {0}
IsLater n other = ⊥

sent_by : (n : ℕ) (s : System) (replica : ℕ) (request : Option Request) → n ≤ s.pool.sent → Keeps n s.pool (send_to s replica request).pool
sent_by n s replica (Some request) h = keeps_sent n s.pool _ h
sent_by n s replica None h = keeps_itself n s.pool

sent_found : (n : ℕ) (s : System) (replica : ℕ) (found : Option Client) → n ≤ s.pool.sent → Keeps n s.pool (send s replica found).pool
sent_found n s replica None h = keeps_itself n s.pool
sent_found n s replica (Some client) h = sent_by n s replica (request_of client) h

handled_found : (n : ℕ) (s : System) (number : ℕ) (request : Request) (node : Option Node) (caller : Option ℕ) → n ≤ s.pool.sent → Keeps n s.pool (handle s number request node caller).pool
handled_found n s number request (Some node) (Some client) h = keeps_sent n s.pool _ h
handled_found n s number request (Some node) None h = keeps_itself n s.pool
handled_found n s number request None caller h = keeps_itself n s.pool

taken_found : (n : ℕ) (s : System) (name : ℕ) (reply : Reply) (found : Option Client) → Keeps n s.pool (take s name reply found).pool
taken_found n s name reply None = keeps_itself n s.pool
taken_found n s name reply (Some client) = keeps_itself n s.pool

arrived : (n : ℕ) (s : System) (message : Message) → n ≤ s.pool.sent → Keeps n s.pool (arrive s message).pool
arrived n s (ToReplica number request) h = handled_found n s number request _ _ h
arrived n s (ToClient name reply) h = taken_found n s name reply _

delivered_found : (n : ℕ) (s : System) (flight : ℕ) (found : Option Message) → n ≤ s.pool.sent → n ≤ flight → Keeps n s.pool (deliver s flight found).pool
delivered_found n s flight None h later = keeps_itself n s.pool
delivered_found n s flight (Some message) h later = keeps_on n s.pool (arrive s message).pool _ (arrived n s message h) (keeps_less n (arrive s message).pool flight later)

responded_by : (n : ℕ) (s : System) (name : ℕ) (rules : Rules) (state : State) → Keeps n s.pool (respond s name (Some (record { rules = rules; state = state }))).pool
responded_by n s name rules (Ready chosen) = keeps_itself n s.pool
responded_by n s name rules (Ask asking) = keeps_itself n s.pool
responded_by n s name rules (Put chosen counted) = keeps_itself n s.pool
responded_by n s name rules Idle = keeps_itself n s.pool
responded_by n s name rules Stopped = keeps_itself n s.pool

responded_found : (n : ℕ) (s : System) (name : ℕ) (found : Option Client) → Keeps n s.pool (respond s name found).pool
responded_found n s name None = keeps_itself n s.pool
responded_found n s name (Some client) = responded_by n s name client.rules client.state

keeps_moved : (n : ℕ) (s : System) (step : Step) → IsLater n step → n ≤ s.pool.sent → Keeps n s.pool (system_after s step).pool
keeps_moved n s (step.Send name replica) later h = sent_found n s replica (finite.get s.members.clients name) h
keeps_moved n s (step.Deliver flight) later h = delivered_found n s flight (message_of s.pool.flights flight) h later
keeps_moved n s (step.Respond name) later h = responded_found n s name (finite.get s.members.clients name)
keeps_moved n s other later h = absurd later

keeps_next : (n : ℕ) (s : System) (step : Step) → IsLater n step → n ≤ s.pool.sent → Keeps n s.pool (next s step).pool
keeps_next n s step later h = by (refusal_of s step)
  where
    by : (found : Option Refusal) → Keeps n s.pool (cond (is_some found) s (system_after s step)).pool
    by None = keeps_moved n s step later h
    by (Some why) = keeps_itself n s.pool

-- ---- all the steps
abbrev pub AllLater : ℕ → List Step → Type 0
AllLater n [] = Unit {0}
AllLater n (step ∷ steps) = IsLater n step × AllLater n steps

pub keeps_after : (n : ℕ) (s : System) (steps : List Step) → AllLater n steps → n ≤ s.pool.sent → Keeps n s.pool (after_from s steps).pool
keeps_after n s [] later h = keeps_itself n s.pool
keeps_after n s (step ∷ steps) later h =
    let first = keeps_next n s step later.0 h in
    let sent = first.sent in
    keeps_on n s.pool (next s step).pool _ first (keeps_after n (next s step) steps later.1 (omega (arith, sent)))

round_later : (n : ℕ) (s : System) (name replica : ℕ) → n ≤ s.pool.sent → AllLater n (round s name replica)
round_later n s name replica h = (tt, (h, (omega arith, tt)))

all_later : (n name : ℕ) (s : System) (steps : List Step) → AreSettleSteps name s steps → n ≤ s.pool.sent → AllLater n steps
all_later n name s steps (answers t ready) h = (tt, tt)
all_later n name s steps (asks t replica others rest requests first settles) h =
    let sent = (keeps_after n t (round t name replica) (round_later n t name replica h) h).sent in
    (tt, (h, (omega arith, all_later n name (after_from t (round t name replica)) rest settles (omega (arith, sent)))))

front_later : (n : ℕ) (taken rest : List Step) → AllLater n (taken ++ rest) → AllLater n taken
front_later n [] rest h = tt
front_later n (step ∷ taken) rest h = (h.0, front_later n taken rest h.1)

-- the first of the steps that complete a call leave earlier flights their copies
pub keeps_earlier : (s : System) (name : ℕ) (taken rest : List Step) → AreSettleSteps name s (taken ++ rest) → KeepsEarlier s (after_from s taken)
keeps_earlier s name taken rest settles =
    (keeps_after s.pool.sent s taken (front_later s.pool.sent taken rest (all_later s.pool.sent name s (taken ++ rest) settles (omega arith))) (omega arith)).copies
