-- What a client's turn leaves, as its pass sees it.
use Rattle.std.proofs.Common.{◌≡◌, ◌≤◌, ◌<◌, ℕ, true, false, List, [], ◌∷◌, ◌++◌, Option, Some, None, Result, Ok, Err, length, slice_get}
use Rattle.std.proofs.Common.{refl, sym, ap, ◌∙◌, subst, inl, inr, arith}
use Rattle.std.specs.FinMap as finite
use Rattle.std.proofs.lemmas.Option.{same_Some}
use Rattle.tag.proofs.Lists.{push_cases, slice_get-push_last}
use Rattle.tag.proofs.Options.{none_some}
use Rattle.tag.specs.Tags.{Tag}
use Rattle.tag.specs.declared.actions.Action.{Action}
use Rattle.tag.specs.declared.actions.Returned.{Returned}
use Rattle.tag.specs.declared.numbers.OpId.{OpId}
use Rattle.replica.specs.declared.replies.Reply.{Reply}
use Rattle.client_phases.specs.Calls.{answer_from}
use Rattle.client_phases.specs.Clients.{answer_of, pending_of, reply_result}
use Rattle.client_phases.specs.declared.clients.Client.{Client}
use Rattle.client_phases.specs.declared.outcomes.Taken.{Taken}
use Rattle.client_phases.specs.declared.outcomes.Taken.TheVariants.{Stale, Counted, Noted, Agreed}
use Rattle.client_phases.specs.declared.outcomes.Taken.TheVariants as outcome
use Rattle.client_phases.specs.declared.rules.Rules.{Rules}
use Rattle.client_phases.specs.declared.states.State.{State}
use Rattle.client_phases.specs.declared.states.State.TheVariants.{Idle, Ask, Put, Ready, Stopped}
use Rattle.network.specs.Flights.{message_of}
use Rattle.network.specs.declared.messages.Message.{Message}
use Rattle.network.specs.declared.messages.Message.TheVariants.{ToReplica, ToClient}
use Rattle.recorder.specs.declared.row.Row.{Row}
use Rattle.recorder.specs.declared.row.Row.TheVariants.{Invoke, Note, Respond}
use Rattle.world_steps.specs.Lasting.{Began, HasJoined, HasStopped, IsRowOf, receiver}
use Rattle.world_steps.specs.Moves.{IsReady}
use Rattle.world_steps.specs.Sound.{At}
use Rattle.world_steps.specs.Systems.{answered_op, deliver, effect_of, invoke, system_after, next_call, respond, send, stop, take}
use Rattle.world_steps.specs.Systems.{with_note}
use Rattle.world_steps.specs.Refusals.{is_stopped, phase_at, refusal_of}
use Rattle.world_steps.specs.SoundSystems.{IsSound}
use Rattle.world_steps.specs.declared.effect.Effect.{Effect}
use Rattle.world_steps.specs.declared.effect.Effect.TheVariants as effect
use Rattle.world_steps.specs.declared.refusal.Refusal.{Refusal}
use Rattle.world_steps.specs.declared.step.Step.{Step}
use Rattle.world_steps.specs.declared.step.Step.TheVariants as step
use Rattle.world_steps.specs.declared.system.System.{System}
use Rattle.hall_journal.specs.Halls.{Hall, IsReplay, TakesOrRefuses, with_step}
use Rattle.hall_lock.specs.declared.client_pass.Delay.{Delay}
use Rattle.hall_lock.specs.declared.client_pass.Delay.TheVariants.{Foreign, Refused}
use Rattle.hall_lock.specs.declared.rule.View.{View}
use Rattle.hall_lock.specs.Turns.TakesReply.{WithNote, WithoutNote}
use Rattle.hall_lock.specs.Turns.{AddsNoRow, AddsOwnRows, AddsRow, AreRecorded, ClientView, DeliversFlight, HoldsBack, IsDelayed, IsQuiet}
use Rattle.hall_lock.specs.Turns.{IsToClient, KeepsStopped}
use Rattle.hall_lock.specs.Turns.{LooksAt, OthersAdd, Receives, Returns, StaysStopped, TakesFlight, TakesReply, TakesTurn, Turns}
use Rattle.hall_lock.specs.Turns.{is_client_stopped, seat, seat_in, view_at_rest}
use Rattle.hall_lock.proofs.Running.{delivered_runs, invoked_runs, responded_runs}
use Rattle.hall_lock.proofs.OneTurn.{rested}

-- ---- the rows after a step

sent_rows : (s : System) (replica : ℕ) (found : Option Client) → (send s replica found).history.rows ≡ s.history.rows
sent_rows s replica None = refl
sent_rows s replica (Some client) = by_state client.rules client.state
  where
    by_state : (rules : Rules) (state : State)
        → (send s replica (Some (record { rules = rules; state = state }))).history.rows ≡ s.history.rows
    by_state rules Idle = refl
    by_state rules (Ask asking) = refl
    by_state rules (Put chosen counted) = refl
    by_state rules (Ready chosen) = refl
    by_state rules Stopped = refl

stopped_rows : (s : System) (name : ℕ) (found : Option Client) → (stop s name found).history.rows ≡ s.history.rows
stopped_rows s name None = refl
stopped_rows s name (Some client) = refl

-- a quiet step adds no row
quiet_rows : (s : System) (step : Step) → IsQuiet step → (system_after s step).history.rows ≡ s.history.rows
quiet_rows s (step.Join name) quiet = absurd quiet
quiet_rows s (step.Invoke name key action) quiet = absurd quiet
quiet_rows s (step.Send name replica) quiet = sent_rows s replica (finite.get s.members.clients name)
quiet_rows s (step.Deliver flight) quiet = absurd quiet
quiet_rows s (step.Lose flight) quiet = refl
quiet_rows s (step.Repeat flight) quiet = refl
quiet_rows s (step.Respond name) quiet = absurd quiet
quiet_rows s (step.StopClient name) quiet = stopped_rows s name (finite.get s.members.clients name)
quiet_rows s (step.StopReplica number) quiet = absurd quiet
quiet_rows s (step.StartReplica number) quiet = absurd quiet

quiet_takes : (old new : Hall) (step : Step) (result : Result Effect Refusal) → IsQuiet step → TakesOrRefuses old step result new
    → new.world.history.rows ≡ old.world.history.rows
quiet_takes old new step (Ok effect) quiet took = ap (λ (h : Hall). h.world.history.rows) took.2 ∙ quiet_rows old.world step quiet
quiet_takes old new step (Err why) quiet took = ap (λ (h : Hall). h.world.history.rows) took.1

-- an invocation adds its row
pub invoked_rows : (old new : Hall) (name : ℕ) (key : List ℕ) (action : Action) → HasJoined old.world name
    → new ≡ with_step old (step.Invoke name key action)
    → new.world.history.rows ≡ old.world.history.rows ++ Invoke (next_call old.world) name key action ∷ []
invoked_rows old new name key action joined is = ap (λ (h : Hall). h.world.history.rows) is ∙ by_client old.world
    (finite.get old.world.members.clients name) joined.0 joined.1
  where
    by_client : (s : System) (found : Option Client) (client : Client) → found ≡ Some client
        → (invoke s name key action found).history.rows ≡ s.history.rows ++ Invoke (next_call s) name key action ∷ []
    by_client s None client there = none_some there
    by_client s (Some other) client there = refl

-- a response adds its row, with the client's answer
pub responded_rows : (old new : Hall) (name : ℕ) (client : Client) (op : OpId) (returned : Returned)
    → finite.get old.world.members.clients name ≡ Some client → Some op ≡ pending_of client → Some returned ≡ answer_of client
    → new ≡ with_step old (step.Respond name) → new.world.history.rows ≡ old.world.history.rows ++ Respond op returned ∷ []
responded_rows old new name client op returned there pending answer is =
    ap (λ (h : Hall). h.world.history.rows) is ∙ ap (λ o. (respond old.world name o).history.rows) there ∙ by_state old.world client.rules
    client.state pending answer
  where
    by_state : (s : System) (rules : Rules) (state : State) → Some op ≡ pending_of (record { rules = rules; state = state })
        → Some returned ≡ answer_of (record { rules = rules; state = state })
        → (respond s name (Some (record { rules = rules; state = state }))).history.rows ≡ s.history.rows ++ Respond op returned ∷ []
    by_state s rules Idle pending answer = none_some (sym answer)
    by_state s rules (Ask asking) pending answer = none_some (sym answer)
    by_state s rules (Put chosen counted) pending answer = none_some (sym answer)
    by_state s rules (Ready chosen) pending answer =
        let number : chosen.call.op ≡ op = sym (same_Some op chosen.call.op pending) in
        let same : answer_from chosen ≡ returned = sym (same_Some returned (answer_from chosen) answer) in
        ap (λ (row : Row). s.history.rows ++ row ∷ []) (ap (λ o. Respond o (answer_from chosen)) number ∙ ap (λ r. Respond op r) same)
    by_state s rules Stopped pending answer = none_some (sym answer)

-- ---- what a delivery adds

pub data IsNoted (old new : List Row) : Type 0 where
  Same : new ≡ old → IsNoted old new
  OneNote : (op : OpId) (tag : Tag) → new ≡ old ++ Note op tag ∷ [] → IsNoted old new

noted : (s : System) (op : OpId) (taken : Taken) → IsNoted s.history.rows (with_note s.history op taken).rows
noted s op (Noted tag) = OneNote op tag refl
noted s op (Agreed tag) = OneNote op tag refl
noted s op Stale = Same refl
noted s op Counted = Same refl
noted s op outcome.Ready = Same refl

heard_rows : (s : System) (name : ℕ) (reply : Reply) (found : Option Client) → IsNoted s.history.rows (take s name reply found).history.rows
heard_rows s name reply None = Same refl
heard_rows s name reply (Some client) = noted s (answered_op reply) (reply_result client reply)

pub delivered_rows : (s : System) (flight client : ℕ) (found : Option Message) → receiver found ≡ Some client
    → IsNoted s.history.rows (deliver s flight found).history.rows
delivered_rows s flight client None is = none_some is
delivered_rows s flight client (Some (ToReplica number request)) is = none_some is
delivered_rows s flight client (Some (ToClient name reply)) is = heard_rows s name reply (finite.get s.members.clients name)

-- ---- whose a new row is

note_not_invoke : (op o : OpId) (tag : Tag) (name : ℕ) (key : List ℕ) (action : Action) → Note op tag ≡ Invoke o name key action → ⊥
note_not_invoke op o tag name key action e = absurd (cc)

respond_not_invoke : (op o : OpId) (returned : Returned) (name : ℕ) (key : List ℕ) (action : Action)
    → Respond op returned ≡ Invoke o name key action → ⊥
respond_not_invoke op o returned name key action e = absurd (cc)

-- a call that began before a row that is no invocation
began_before : (old new : List Row) (row : Row) (name : ℕ) (op : OpId) → new ≡ old ++ row ∷ []
    → ((key : List ℕ) (action : Action) → row ≡ Invoke op name key action → ⊥) → Began new name op → Began old name op
began_before old new row name op same apart began =
    let there = subst (λ l. slice_get l began.place ≡ Some (Invoke op name began.key began.action)) same began.is in
    elim (push_cases old row began.place (Invoke op name began.key began.action) there) [
      | inl early ↦ record { place = began.place; key = began.key; action = began.action; is = early }
      | inr last ↦ absurd (apart began.key began.action last.1)
    ]

row_before : (old new : List Row) (row : Row) (name : ℕ) → new ≡ old ++ row ∷ [] → IsRowOf new name row → IsRowOf old name row
row_before old new (Invoke op client key action) name same is = is
row_before old new (Note op tag) name same is = began_before old new (Note op tag) name op same
    (λ key action e. note_not_invoke op op tag name key action e) is
row_before old new (Respond op returned) name same is =
    began_before old new (Respond op returned) name op same (λ key action e. respond_not_invoke op op returned name key action e) is

-- the row that was added is of the client's call
own_row : (client : ℕ) (old new : System) (row : Row) → AddsOwnRows (Some client) old new → new.history.rows ≡ old.history.rows ++ row ∷ []
    → IsRowOf old.history.rows client row
own_row client old new row adds same =
    let there : At new.history.rows (length old.history.rows) row =
    subst (λ l. slice_get l (length old.history.rows) ≡ Some row) (sym same) (slice_get-push_last old.history.rows row) in
    let own = adds.own (length old.history.rows) row (omega arith) there in
    row_before old.history.rows new.history.rows row client same (subst (λ n. IsRowOf new.history.rows n row)
    (sym (same_Some client own.name own.named)) own.is)

-- ---- a client's turn

abbrev pub seen : ℕ → View → ClientView
seen client v = record { client = client; rows = v.rows; is_stopped = v.is_stopped }

-- one turn of a client's pass: what it knew of the hall that it received, and what it knows of the one that it gave back
pub record ClientTurn (client : ℕ) (v : View) (old new : Hall) (z : View) : Type 0 where
  pub others : OthersAdd client v.rows old.world.history.rows
  pub joined : HasJoined old.world client
  pub stays : StaysStopped (seen client v) (seen client z)
  pub is : z ≡ seat_in client new.world

-- a client that was seen stopped is stopped as the hall is received
pub found_stopped : (client : ℕ) (v w : View) (hall : Hall) → v ≡ seat client v.rows v.is_stopped → Receives v hall w → v.is_stopped ≡ true
    → HasStopped hall.world client
found_stopped client v w hall is received stopped =
    subst (λ c. is_client_stopped c hall.world ≡ true) (ap (λ (y : View). y.client) is) (received.knows.stopped stopped)

pub client_turn : {client : ℕ} {v w z : View} {old : Hall} (new : Hall) → v ≡ seat client v.rows v.is_stopped → Receives v old w
    → Returns w new z
    → KeepsStopped w new.world → ClientTurn client v old new z
client_turn {client} {v} {w} {z} {old} new is received returned keeps =
    let named : v.client ≡ Some client = ap (λ (y : View). y.client) is in
    let now : z ≡ seat_in client new.world = rested v w z old new received.is returned ∙ ap (λ y. view_at_rest y new.world) is in
    record {
      others = received.knows.others client named;
      joined = received.knows.joined client named;
      stays = λ stopped. ap (λ (y : View). y.is_stopped) now
          ∙ keeps old.world client (ap (λ (y : View). y.held) received.is) (found_stopped client v w old is received stopped);
      is = now;
    }

pub looked : (client : ℕ) (v : View) (old new : Hall) (z : View) → ClientTurn client v old new z
    → new.world.history.rows ≡ old.world.history.rows → AddsNoRow (seen client v) (seen client z)
looked client v old new z turn same = record {
  client = refl;
  others = subst (OthersAdd client v.rows) (sym same ∙ sym (ap (λ (y : View). y.rows) turn.is)) turn.others;
}

pub added : (client : ℕ) (v : View) (old new : Hall) (z : View) (row : Row) (place : ℕ) → ClientTurn client v old new z
    → length old.world.history.rows ≡ place → IsRowOf old.world.history.rows client row
    → new.world.history.rows ≡ old.world.history.rows ++ row ∷ [] → is_stopped (phase_at new.world client) ≡ false
    → AddsRow (seen client v) row place (seen client z)
added client v old new z row place turn at own same free = record {
  before = old.world.history.rows;
  others = turn.others;
  at = at;
  own = own;
  is = λ i. record {
    client = client;
    rows = (ap (λ (y : View). y.rows) turn.is ∙ same) i;
    is_stopped =
        (ap (λ (y : View). y.is_stopped) turn.is ∙ free) i;
  };
}

pub took_reply : (client : ℕ) (v : View) (old new : Hall) (z : View) → ClientTurn client v old new z
    → IsNoted old.world.history.rows new.world.history.rows → AddsOwnRows (Some client) old.world new.world
    → is_stopped (phase_at new.world client) ≡ false → TakesReply (seen client v) (seen client z)
took_reply client v old new z turn (Same same) adds free = WithoutNote (looked client v old new z turn same)
took_reply client v old new z turn (OneNote op tag same) adds free =
    WithNote op tag (length old.world.history.rows) (added client v old new z (Note op tag) (length old.world.history.rows) turn refl
    (own_row client old.world new.world (Note op tag) adds same) same free)

pub seat_recorded : (client : ℕ) (z : View) (hall : Hall) → z ≡ seat_in client hall.world → AreRecorded hall.world.history.rows
    → (z ≡ seat client z.rows z.is_stopped) × AreRecorded z.rows
seat_recorded client z hall is recorded =
    let rows : z.rows ≡ hall.world.history.rows = ap (λ (y : View). y.rows) is in
    let stopped : z.is_stopped ≡ is_stopped (phase_at hall.world client) = ap (λ (y : View). y.is_stopped) is in
    (is ∙ (λ i. seat client (sym rows i) (sym stopped i)), subst AreRecorded (sym rows) recorded)

-- a client's pass, once it has given the hall back
pub seat_left : {client : ℕ} {v w z : View} {old : Hall} (new : Hall) → v ≡ seat client v.rows v.is_stopped → Receives v old w
    → Returns w new z → KeepsStopped w new.world → AreRecorded new.world.history.rows
    → (z ≡ seat client z.rows z.is_stopped) × AreRecorded z.rows
seat_left {client} {v} {w} {z} {old} new is received returned keeps recorded =
    seat_recorded client z new (client_turn new is received returned keeps).is recorded

-- ---- the rows of each turn

pub invoked_op : (s : System) (name : ℕ) (key : List ℕ) (action : Action) (op : OpId)
    → effect_of s (step.Invoke name key action) ≡ Some (effect.Invoked op) → next_call s ≡ op
invoked_op s name key action op is = same_op (next_call s) op (same_Some (effect.Invoked (next_call s)) (effect.Invoked op) is)
  where
    same_op : (a b : OpId) → effect.Invoked a ≡ effect.Invoked b → a ≡ b
    same_op a b e = cc

pub begun : {client : ℕ} {v z : View} {old new : Hall} → ClientTurn client v old new z
    → (key : List ℕ) (action : Action) (op : OpId) (place : ℕ)
    → TakesOrRefuses old (step.Invoke client key action) (Ok (effect.Invoked op)) new → length old.world.history.rows ≡ place
    → AddsRow (seen client v) (Invoke op client key action) place (seen client z)
begun {client} {v} {z} {old} {new} turn key action op place took at =
    let same : new.world.history.rows ≡ old.world.history.rows ++ Invoke op client key action ∷ [] =
    invoked_rows old new client key action turn.joined took.2
    ∙ ap (λ o. old.world.history.rows ++ Invoke o client key action ∷ []) (invoked_op old.world client key action op took.1) in
    added client v old new z (Invoke op client key action) place turn at refl same
    (invoked_runs old new client key action turn.joined took.2)

pub left : {client : ℕ} {v z : View} {old new : Hall} → ClientTurn client v old new z → new ≡ old
    → AddsNoRow (seen client v) (seen client z)
left {client} {v} {z} {old} {new} turn same = looked client v old new z turn (ap (λ (h : Hall). h.world.history.rows) same)

pub looks_at : {client : ℕ} {v z : View} {hall : Hall} → ClientTurn client v hall hall z → (Told : System → Type 0) → IsReplay hall
    → IsSound hall.world
    → Told hall.world → LooksAt (seen client v) Told (seen client z)
looks_at {client} {v} {z} {hall} turn Told replay sound told = record {
  hall = hall;
  replay = replay;
  sound = sound;
  others = turn.others;
  joined = turn.joined;
  told = told;
  is = ap (seen client) turn.is;
}

-- a reply is for the client that it names
pub to_client : (client : ℕ) (message : Option Message) → IsToClient client message → receiver message ≡ Some client
to_client client None is = absurd is
to_client client (Some (ToReplica number request)) is = absurd is
to_client client (Some (ToClient name reply)) is = ap (λ n. Some n) is

pub takes_flight : {client : ℕ} {v z : View} {old new : Hall} → ClientTurn client v old new z
    → IsReplay old → IsSound old.world → (flight : ℕ) (result : Result Effect Refusal)
    → DeliversFlight (IsToClient client) old flight result new → TakesFlight (seen client v) flight result (seen client z)
takes_flight {client} {v} {z} {old} {new} turn replay sound flight result delivered = record {
  before = old;
  after = new;
  replay = replay;
  sound = sound;
  others = turn.others;
  delivered = delivered;
  is = ap (seen client) turn.is;
}

-- a turn in which the hall took a step or refused it
pub took_turn : {client : ℕ} {v z : View} {old new : Hall} → ClientTurn client v old new z → IsReplay old → IsSound old.world
    → (step : Step) (result : Result Effect Refusal)
    → TakesOrRefuses old step result new → TakesTurn (seen client v) step result (seen client z)
took_turn {client} {v} {z} {old} {new} turn replay sound step result took = record {
  before = old;
  after = new;
  replay = replay;
  sound = sound;
  others = turn.others;
  took = took;
  is = ap (seen client) turn.is;
}

pub delayed : {client : ℕ} {v z : View} {old new : Hall} → ClientTurn client v old new z → (step : Step) (count : ℕ) (delay : Delay)
    → IsReplay old
    → IsSound old.world → HoldsBack old step count delay new → IsDelayed (seen client v) step count delay (seen client z)
delayed {client} {v} {z} {old} {new} turn step count Foreign replay sound held =
    looks_at (subst (λ h. ClientTurn client v old h z) held.1 turn) (λ s. length s.history.rows < count) replay sound held.0
delayed {client} {v} {z} {old} {new} turn step count (Refused why) replay sound held = (
  subst (λ l. count ≤ length l) (sym (ap (λ (y : View). y.rows) turn.is ∙ ap (λ (h : Hall). h.world.history.rows) held.1.1)) held.0,
  took_turn turn replay sound step (Err why) held.1,
)

pub ended : {client : ℕ} {v z : View} {old new : Hall} → ClientTurn client v old new z → (op : OpId) (returned : Returned) (place : ℕ)
    → AddsOwnRows (Some client) old.world new.world → new ≡ with_step old (step.Respond client) → IsReady old.world client op returned
    → length old.world.history.rows ≡ place → AddsRow (seen client v) (Respond op returned) place (seen client z)
ended {client} {v} {z} {old} {new} turn op returned place adds same ready at =
    let grew : new.world.history.rows ≡ old.world.history.rows ++ Respond op returned ∷ [] =
    responded_rows old new client ready.state op returned ready.there ready.pending ready.answer same in
    added client v old new z (Respond op returned) place turn at (own_row client old.world new.world (Respond op returned) adds grew) grew
    (responded_runs old new client ready.state returned ready.there ready.answer same)

pub heard : {client : ℕ} {v z : View} {old new : Hall} → ClientTurn client v old new z → (flight : ℕ)
    → AddsOwnRows (Some client) old.world new.world
    → receiver (message_of old.world.pool.flights flight) ≡ Some client → refusal_of old.world (step.Deliver flight) ≡ None
    → new ≡ with_step old (step.Deliver flight) → TakesReply (seen client v) (seen client z)
heard {client} {v} {z} {old} {new} turn flight adds names none same =
    let moved_to : new.world.history.rows ≡ (deliver old.world flight (message_of old.world.pool.flights flight)).history.rows = ap
    (λ (h : Hall). h.world.history.rows) same in
    let notes : IsNoted old.world.history.rows new.world.history.rows =
    subst (IsNoted old.world.history.rows) (sym moved_to) (delivered_rows old.world flight client
    (message_of old.world.pool.flights flight) names) in
    took_reply client v old new z turn notes adds
    (delivered_runs old new flight client names none same)

-- a turn of the door, as the client's pass says it
pub door_turn : (client : ℕ) (v w : View) (step : Step) (result : Result Effect Refusal) → v ≡ seat client v.rows v.is_stopped
    → (turn : Turns v step result w) → ClientTurn client v turn.before turn.after w
door_turn client v w step result is turn =
    let named : v.client ≡ Some client = ap (λ (y : View). y.client) is in
    let now : w ≡ seat_in client turn.after.world = turn.is ∙ ap (λ y. view_at_rest y turn.after.world) is in
    record {
      others = turn.knows.others client named;
      joined = turn.knows.joined client named;
      stays = λ stopped. ap (λ (y : View). y.is_stopped) now
          ∙ turn.stays client (subst (λ c. is_client_stopped c turn.before.world ≡ true) named (turn.knows.stopped stopped));
      is = now;
    }

pub turn_seen : (client : ℕ) (v w : View) (step : Step) (result : Result Effect Refusal) → v ≡ seat client v.rows v.is_stopped
    → Turns v step result w → TakesTurn (seen client v) step result (seen client w)
turn_seen client v w step result is turn =
    took_turn (door_turn client v w step result is turn) turn.replay turn.sound step result turn.took

pub quiet_seen : (client : ℕ) (v w : View) (step : Step) (result : Result Effect Refusal) → IsQuiet step
    → v ≡ seat client v.rows v.is_stopped
    → Turns v step result w → AddsNoRow (seen client v) (seen client w)
quiet_seen client v w step result quiet is turn =
    looked client v turn.before turn.after w (door_turn client v w step result is turn)
    (quiet_takes turn.before turn.after step result quiet turn.took)

pub seat_turned : (client : ℕ) (v w : View) (step : Step) (result : Result Effect Refusal) → v ≡ seat client v.rows v.is_stopped
    → Turns v step result w → (w ≡ seat client w.rows w.is_stopped) × AreRecorded w.rows
seat_turned client v w step result is turn = seat_recorded client w turn.after (door_turn client v w step result is turn).is turn.recorded
