-- A hall that threads share under a lock: it lies in a channel or is out with one pass, and each
-- pass knows what it has seen. A turn is one step under the lock. It is a monitor with an invariant
-- (Hoare 1974), said of tokens.
use Rattle.std.specs.Prelude.{ℕ, ◌≡◌, ◌≤◌, ◌<◌, Bool, true, false, List, [], ◌∷◌, ◌++◌, Option}
use Rattle.std.specs.Prelude.{Some, None, Result, Err, length}
use Rattle.std.specs.FinMap as finite
use mathlib.Core.Option.{some}
use lib.ListN.{get_elem?}
use Rattle.tag.specs.declared.actions.Action.{Action}
use Rattle.tag.specs.Tags.{Tag}
use Rattle.tag.specs.declared.numbers.OpId.{OpId}
use Rattle.client_phases.specs.Clients.{counted_by, phase_of}
use Rattle.client_phases.specs.declared.clients.Client.{Client}
use Rattle.client_phases.specs.declared.outcomes.Phase.{Phase}
use Rattle.quorum.specs.Sets.{Replicas}
use Rattle.network.specs.Flights.{message_of}
use Rattle.network.specs.declared.messages.Message.{Message}
use Rattle.network.specs.declared.messages.Message.TheVariants.{ToReplica, ToClient}
use Rattle.recorder.specs.Histories.{IsWellFormed, Recorded}
use Rattle.recorder.specs.declared.row.Row.{Row}
use Rattle.recorder.specs.declared.row.Row.TheVariants.{Invoke, Note}
use Rattle.world_steps.specs.Configs.{config_of}
use Rattle.world_steps.specs.Lasting.{Grows, HasJoined, HasStopped, IsRowOf}
use Rattle.world_steps.specs.Refusals.{is_stopped, phase_at}
use Rattle.world_steps.specs.SoundSystems.{IsSound}
use Rattle.world_steps.specs.Sound.{At}
use Rattle.world_steps.specs.Systems.{opening}
use Rattle.world_steps.specs.declared.effect.Effect.{Effect}
use Rattle.world_steps.specs.declared.step.Step.{Step}
use Rattle.world_steps.specs.declared.step.Step.TheVariants as step
use Rattle.world_steps.specs.declared.refusal.Refusal.{Refusal}
use Rattle.world_steps.specs.declared.refusal.Refusal.TheVariants as refusal
use Rattle.world_steps.specs.declared.system.System.{System}
use Rattle.hall_journal.specs.Halls.{Hall, IsReplay, TakesOrRefuses}
use Rattle.hall_lock.specs.declared.client_pass.Delay.{Delay}
use Rattle.hall_lock.specs.declared.client_pass.Delay.TheVariants.{Foreign, Refused}
use Rattle.hall_lock.specs.declared.rule.View.{View}

-- ---- what a pass knows

-- a pass without a client, which has seen these rows
abbrev pub guest : List Row → View
guest rows = record { client = None; rows = rows; is_stopped = false; held = None }

-- the pass of a client, which has seen these rows, and whether the client is stopped
abbrev pub seat : ℕ → List Row → Bool → View
seat client rows stopped =
    record { client = Some client; rows = rows; is_stopped = stopped; held = None }

-- the first pass, which holds the hall as it is made
abbrev pub maker : View
maker = record {
  client = None;
  rows = [];
  is_stopped = false;
  held = Some (opening (config_of 1 1 1));
}

-- whether the pass has a client that is stopped in this world
abbrev pub is_client_stopped : Option ℕ → System → Bool
is_client_stopped (Some client) s = is_stopped (phase_at s client)
is_client_stopped None s = false

-- the pass of a client that has given the hall back with this world
abbrev pub seat_in : ℕ → System → View
seat_in client s = seat client s.history.rows (is_stopped (phase_at s client))

-- the pass that holds the hall, which it received with this world
abbrev pub view_with_hall : View → System → View
view_with_hall v s =
    record { client = v.client; rows = v.rows; is_stopped = v.is_stopped; held = Some s }

-- the pass that has given the hall back with this world
abbrev pub view_at_rest : View → System → View
view_at_rest v s = record {
  client = v.client;
  rows = s.history.rows;
  is_stopped = is_client_stopped v.client s;
  held = None;
}

-- the pass doesn't hold the hall
abbrev pub IsAtRest : View → Type 0
IsAtRest v = v.held ≡ None

-- ---- what other passes may have added

-- the row is of a call of another client
pub record IsOfAnother (rows : List Row) (client : ℕ) (row : Row) : Type 0 where
  pub name : ℕ
  pub apart : name ≡ client → ⊥
  pub is : IsRowOf rows name row

-- rows came after those that were seen, each of another client's call
pub record OthersAdd (client : ℕ) (seen rows : List Row) : Type 0 where
  pub grown : Grows seen rows
  pub others : (place : ℕ) (row : Row) → length seen ≤ place → At rows place row
      → IsOfAnother rows client row

-- ---- the rule

-- what a pass knows of the world: the record begins with the rows that it has seen; its client, if
-- it has one, joined, has none of the later rows, and is stopped if the pass saw it stopped
pub record Knows (v : View) (s : System) : Type 0 where
  pub seen : Grows v.rows s.history.rows
  pub others : (client : ℕ) → v.client ≡ Some client → OthersAdd client v.rows s.history.rows
  pub joined : (client : ℕ) → v.client ≡ Some client → HasJoined s client
  pub stopped : v.is_stopped ≡ true → is_client_stopped v.client s ≡ true

-- what the pass knows is so; and if it holds the hall, it is the holder and received this world
pub record AgreesWithHall (now : System) (holder : Option ℕ) (pass : ℕ) (v : View) : Type 0 where
  pub knows : Knows v now
  pub out : (s : System) → v.held ≡ Some s → (holder ≡ Some pass) × (s ≡ now)

-- the hall lies in the channel, or one pass holds it
abbrev pub HallStands : List Hall → List View → System → Option ℕ → Type 0
HallStands halls views now None = (hall : Hall) × (halls ≡ hall ∷ []) × (hall.world ≡ now)
HallStands halls views now (Some pass) =
    (halls ≡ []) × ((v : View) × (get_elem? views pass ≡ some v) × (v.held ≡ Some now))

-- each pass agrees with the hall
abbrev pub AgreeWithHall : System → Option ℕ → List View → Type 0
AgreeWithHall now holder views =
    (pass : ℕ) (v : View) → get_elem? views pass ≡ some v → AgreesWithHall now holder pass v

-- no two passes have one client
abbrev pub AreApart : List View → Type 0
AreApart views = (i j : ℕ) (u v : View) (client : ℕ) → get_elem? views i ≡ some u
    → get_elem? views j ≡ some v → u.client ≡ Some client → v.client ≡ Some client → i ≡ j

-- the rule: there is one hall, in the channel or out with one pass; each pass knows a beginning of
-- its record; and no two passes have one client
pub record HasOneHall (halls : List Hall) (views : List View) : Type 0 where
  pub now : System
  pub holder : Option ℕ
  pub placed : HallStands halls views now holder
  pub fitting : AgreeWithHall now holder views
  pub apart : AreApart views

-- ---- what a pass does

-- the pass received the hall
pub record Receives (v : View) (hall : Hall) (w : View) : Type 0 where
  pub is : w ≡ view_with_hall v hall.world
  pub knows : Knows v hall.world

-- the pass gave the hall back, and has seen all its rows
abbrev pub Returns : View → Hall → View → Type 0
Returns v hall w = w ≡ view_at_rest v hall.world

-- the row is of a call of the client, where there is one
pub record IsOwn (client : Option ℕ) (rows : List Row) (row : Row) : Type 0 where
  pub name : ℕ
  pub named : client ≡ Some name
  pub is : IsRowOf rows name row

-- rows of the client's calls were added and no others, none where there is no client; who joined
-- stays joined, and who is stopped stays stopped
pub record AddsOwnRows (client : Option ℕ) (old new : System) : Type 0 where
  pub grown : Grows old.history.rows new.history.rows
  pub own : (place : ℕ) (row : Row) → length old.history.rows ≤ place
      → At new.history.rows place row → IsOwn client new.history.rows row
  pub joined : (name : ℕ) → HasJoined old name → HasJoined new name
  pub stopped : (name : ℕ) → HasStopped old name → HasStopped new name

-- the pass holds the hall, and may give it back as it is now
pub record MayReturn (v : View) (new : System) : Type 0 where
  pub old : System
  pub held : v.held ≡ Some old
  pub adds : AddsOwnRows v.client old new

-- who was stopped in the world that the pass received is stopped in this one
abbrev pub KeepsStopped : View → System → Type 0
KeepsStopped v new = (old : System) (client : ℕ)
    → v.held ≡ Some old → HasStopped old client → HasStopped new client

-- a client joined the world, no row came, and who joined or is stopped stays so
pub record Enters (old : System) (client : ℕ) (new : System) : Type 0 where
  pub fresh : HasJoined old client → ⊥
  pub rows : new.history.rows ≡ old.history.rows
  pub names : new.members.joined ≡ old.members.joined ++ client ∷ []
  pub joined : HasJoined new client
  pub stayed : (other : ℕ) → HasJoined old other → HasJoined new other
  pub stopped : (other : ℕ) → HasStopped old other → HasStopped new other

-- the pass holds the hall, and the client joined it since
pub record HasEntered (v : View) (client : ℕ) (new : System) : Type 0 where
  pub old : System
  pub held : v.held ≡ Some old
  pub enters : Enters old client new

-- the last name that joined
abbrev pub last_of : List ℕ → ℕ
last_of [] = 0
last_of (name ∷ []) = name
last_of (name ∷ next ∷ names) = last_of (next ∷ names)

-- the pass gave the hall back, and its client is from now on the last that joined
abbrev pub BecomesSeat : View → Hall → View → Type 0
BecomesSeat v hall w = w ≡ seat_in (last_of hall.world.members.joined) hall.world

-- ---- turns

-- a step that the client's thread makes: the client invokes, sends, responds or stops, or a flight
-- is lost or repeated
abbrev pub IsStepOfClient : ℕ → Step → Type 0
IsStepOfClient client (step.Invoke name key action) = client ≡ name
IsStepOfClient client (step.Send name replica) = client ≡ name
IsStepOfClient client (step.Respond name) = client ≡ name
IsStepOfClient client (step.StopClient name) = client ≡ name
IsStepOfClient client (step.Lose flight) = Unit {0}
IsStepOfClient client (step.Repeat flight) = Unit {0}
IsStepOfClient client other = ⊥

-- a step that another thread makes: a replica stops or starts, or a flight is lost or repeated
abbrev pub IsStepOfNoClient : Step → Type 0
IsStepOfNoClient (step.StopReplica number) = Unit {0}
IsStepOfNoClient (step.StartReplica number) = Unit {0}
IsStepOfNoClient (step.Lose flight) = Unit {0}
IsStepOfNoClient (step.Repeat flight) = Unit {0}
IsStepOfNoClient other = ⊥

-- a step that the pass may have the hall take: one of its client, or of none if it has none
abbrev pub IsStepOfPass : Option ℕ → Step → Type 0
IsStepOfPass (Some client) step = IsStepOfClient client step
IsStepOfPass None step = IsStepOfNoClient step

-- the rows are the record of a world that steps reach, and each may follow those before it
pub record AreRecorded (rows : List Row) : Type 0 where
  pub hall : Hall
  pub replay : IsReplay hall
  pub sound : IsSound hall.world
  pub is : rows ≡ hall.world.history.rows
  pub formed : IsWellFormed rows

-- one turn of a pass, in which the hall took the step or refused it
pub record Turns (v : View) (step : Step) (result : Result Effect Refusal) (w : View) : Type 0 where
  pub before : Hall
  pub after : Hall
  pub replay : IsReplay before
  pub sound : IsSound before.world
  pub knows : Knows v before.world
  pub took : TakesOrRefuses before step result after
  pub stays : (client : ℕ) → HasStopped before.world client → HasStopped after.world client
  pub recorded : AreRecorded after.world.history.rows
  pub is : w ≡ view_at_rest v after.world

-- ---- deliveries

-- the message is a request to that replica
abbrev pub IsToReplica : ℕ → Option Message → Type 0
IsToReplica replica (Some (ToReplica number request)) = number ≡ replica
IsToReplica replica other = ⊥

-- the message is a reply to that client
abbrev pub IsToClient : ℕ → Option Message → Type 0
IsToClient client (Some (ToClient name reply)) = name ≡ client
IsToClient client other = ⊥

-- a flight's delivery to those named: if its message is for them, the hall takes the step or
-- refuses it; if not, the answer is `NotInFlight`, and the hall stays as it was
pub data DeliversFlight (IsForThem : Option Message → Type 0) (old : Hall) (flight : ℕ)
    (result : Result Effect Refusal) (new : Hall) : Type 0 where
  Theirs : IsForThem (message_of old.world.pool.flights flight)
      → TakesOrRefuses old (step.Deliver flight) result new
      → DeliversFlight IsForThem old flight result new
  Anothers : (IsForThem (message_of old.world.pool.flights flight) → ⊥)
      → result ≡ Err refusal.NotInFlight → new ≡ old
      → DeliversFlight IsForThem old flight result new

-- ---- what contracts say of a client's pass

-- the client, the rows that it has seen, and whether it was stopped in the hall when its pass last
-- gave it back
pub record ClientView : Type 0 where
  pub client : ℕ
  pub rows : List Row
  pub is_stopped : Bool

-- what a client's pass sees of this world
abbrev pub client_view : ℕ → System → ClientView
client_view client s = record {
  client = client;
  rows = s.history.rows;
  is_stopped = is_stopped (phase_at s client);
}

-- one turn with a hall that its journal's steps reach: since the client last saw it only other
-- clients added rows; then it took the step or refused it
pub record TakesTurn (old : ClientView) (step : Step) (result : Result Effect Refusal)
    (new : ClientView) : Type 0 where
  pub before : Hall
  pub after : Hall
  pub replay : IsReplay before
  pub sound : IsSound before.world
  pub others : OthersAdd old.client old.rows before.world.history.rows
  pub took : TakesOrRefuses before step result after
  pub is : new ≡ client_view old.client after.world

-- one turn with a hall that its journal's steps reach: since the client last saw it only other
-- clients added rows; then the flight was delivered to the client, or wasn't
pub record TakesFlight (old : ClientView) (flight : ℕ) (result : Result Effect Refusal)
    (new : ClientView) : Type 0 where
  pub before : Hall
  pub after : Hall
  pub replay : IsReplay before
  pub sound : IsSound before.world
  pub others : OthersAdd old.client old.rows before.world.history.rows
  pub delivered : DeliversFlight (IsToClient old.client) before flight result after
  pub is : new ≡ client_view old.client after.world

-- once stopped, the client stays stopped
abbrev pub StaysStopped : ClientView → ClientView → Type 0
StaysStopped old new = old.is_stopped ≡ true → new.is_stopped ≡ true

-- one or more turns, in which only other clients added rows
pub record AddsNoRow (old new : ClientView) : Type 0 where
  pub client : new.client ≡ old.client
  pub others : OthersAdd old.client old.rows new.rows

-- one turn: first only other clients added rows, then this row of the client came, at that place;
-- the client isn't stopped
pub record AddsRow (old : ClientView) (row : Row) (place : ℕ) (new : ClientView) : Type 0 where
  pub before : List Row
  pub others : OthersAdd old.client old.rows before
  pub at : length before ≡ place
  pub own : IsRowOf before old.client row
  pub is : new ≡ record { client = old.client; rows = before ++ row ∷ []; is_stopped = false }

-- one turn: first only other clients added rows, then perhaps a note of the client's call came
pub data TakesReply (old new : ClientView) : Type 0 where
  WithoutNote : AddsNoRow old new → TakesReply old new
  WithNote : (op : OpId) (tag : Tag) (place : ℕ) → AddsRow old (Note op tag) place new
      → TakesReply old new

-- a step of a client's thread that adds no row
abbrev pub IsQuiet : Step → Type 0
IsQuiet (step.Send name replica) = Unit {0}
IsQuiet (step.Lose flight) = Unit {0}
IsQuiet (step.Repeat flight) = Unit {0}
IsQuiet (step.StopClient name) = Unit {0}
IsQuiet other = ⊥

-- one turn, in which a function read the hall's world, and told this of it: the client joined it,
-- and only other clients added rows since
pub record LooksAt (old : ClientView) (Told : System → Type 0) (new : ClientView) : Type 0 where
  pub hall : Hall
  pub replay : IsReplay hall
  pub sound : IsSound hall.world
  pub others : OthersAdd old.client old.rows hall.world.history.rows
  pub joined : HasJoined hall.world old.client
  pub told : Told hall.world
  pub is : new ≡ client_view old.client hall.world

-- why a hall doesn't begin a call: it has fewer rows than were seen; or it has as many or more, and
-- refuses the invocation
abbrev pub HoldsBack : Hall → Step → ℕ → Delay → Hall → Type 0
HoldsBack old step seen Foreign new = (length old.world.history.rows < seen) × (new ≡ old)
HoldsBack old step seen (Refused why) new =
    (seen ≤ length old.world.history.rows) × TakesOrRefuses old step (Err why) new

-- one turn, in which a call didn't begin for that reason
abbrev pub IsDelayed : ClientView → Step → ℕ → Delay → ClientView → Type 0
IsDelayed old step seen Foreign new = LooksAt old (λ s. length s.history.rows < seen) new
IsDelayed old step seen (Refused why) new =
    (seen ≤ length new.rows) × TakesTurn old step (Err why) new

-- a client of the world is in this phase, and has counted these replicas in it
abbrev pub StandsIn : ℕ → Phase → Replicas → System → Type 0
StandsIn client phase counted s = (state : Client) → finite.get s.members.clients client
    ≡ Some state → (phase ≡ phase_of state) × (counted ≡ counted_by state)

-- no call of the client stands in the rows
abbrev pub HasNoCall : ℕ → List Row → Type 0
HasNoCall client rows = (place : ℕ) (op : OpId) (key : List ℕ) (action : Action)
    → At rows place (Invoke op client key action) → ⊥

-- ---- what contracts say of a pass without a client

-- one turn of a pass without a client, which had seen these rows: a hall that its journal's steps
-- reach took the step or refused it
pub record ServesStep (old : List Row) (step : Step) (result : Result Effect Refusal)
    (new : List Row) : Type 0 where
  pub before : Hall
  pub after : Hall
  pub replay : IsReplay before
  pub sound : IsSound before.world
  pub grown : Grows old before.world.history.rows
  pub took : TakesOrRefuses before step result after
  pub is : new ≡ after.world.history.rows

-- one turn of a pass without a client, which had seen these rows: in a hall that its journal's
-- steps reach the flight was delivered to the replica, or wasn't
pub record ServesFlight (old : List Row) (replica flight : ℕ) (result : Result Effect Refusal)
    (new : List Row) : Type 0 where
  pub before : Hall
  pub after : Hall
  pub replay : IsReplay before
  pub sound : IsSound before.world
  pub grown : Grows old before.world.history.rows
  pub delivered : DeliversFlight (IsToReplica replica) before flight result after
  pub is : new ≡ after.world.history.rows

-- one turn of a pass that had seen these rows, in which a hall refused that the client joins it
abbrev pub RefusesJoin : List Row → ℕ → Refusal → Type 0
RefusesJoin old client why =
    (new : List Row) × ServesStep old (step.Join client) (Err why) new

-- the history is a copy of a hall's record, which begins with the rows that were seen
pub record IsCopied (seen : List Row) (history : Recorded) : Type 0 where
  pub hall : Hall
  pub replay : IsReplay hall
  pub sound : IsSound hall.world
  pub grown : Grows seen history.rows
  pub is : history ≡ hall.world.history

-- this was told of a hall's world, whose record begins with the rows that were seen
pub record IsTold (seen : List Row) (Told : System → Type 0) : Type 0 where
  pub hall : Hall
  pub replay : IsReplay hall
  pub sound : IsSound hall.world
  pub grown : Grows seen hall.world.history.rows
  pub told : Told hall.world
