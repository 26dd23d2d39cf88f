-- What one turn with the hall adds, and what it leaves.
use Rattle.std.proofs.Common.{◌≡◌, ◌≤◌, ℕ, is_some, List, [], ◌∷◌, ◌++◌, Option, Some, None, Result, Ok, Err, length, slice_get, refl}
use Rattle.std.proofs.Common.{sym, ap, ◌∙◌, subst}
use Rattle.std.specs.Prelude.{if◌then◌else◌, IfOk, OnErr, OnOk}
use Rattle.tag.proofs.Options.{none_some}
use Rattle.tag.specs.declared.actions.Returned.{Returned}
use Rattle.tag.specs.declared.memory.Memory.{Memory}
use Rattle.tag.specs.declared.numbers.OpId.{OpId}
use Rattle.recorder.specs.Histories.{IsWellFormed}
use Rattle.recorder.specs.declared.row.Row.{Row}
use Rattle.world_steps.specs.Configs.{Config}
use Rattle.world_steps.specs.Lasting.{AddsRowOf, Grows, HasJoined, HasStopped, IsRowOf, client_in}
use Rattle.world_steps.specs.Lasting.AddsRowOf.{NoRow, OneRow}
use Rattle.world_steps.specs.Refusals.{refusal_of}
use Rattle.world_steps.specs.Runs.{after, next}
use Rattle.world_steps.specs.Sound.{At}
use Rattle.world_steps.specs.SoundSystems.{IsSound}
use Rattle.world_steps.specs.Systems.{system_after}
use Rattle.world_steps.specs.declared.effect.Effect.{Effect}
use Rattle.world_steps.specs.declared.effect.Effect.TheVariants as effect
use Rattle.world_steps.specs.declared.refusal.Refusal.{Refusal}
use Rattle.world_steps.specs.declared.step.Step.{Step}
use Rattle.world_steps.specs.declared.step.Step.TheVariants as step
use Rattle.world_steps.specs.declared.system.System.{System}
use Rattle.hall_journal.specs.Halls.{Hall, IsReplay, TakesOrRefuses, with_step}
use Rattle.hall_lock.specs.declared.rule.View.{View}
use Rattle.hall_lock.specs.Turns.{AddsOwnRows, AreRecorded, IsOwn, IsStepOfClient, IsStepOfNoClient, KeepsStopped, MayReturn}
use Rattle.hall_lock.specs.Turns.{IsStepOfPass, Receives, Returns, Turns, guest, seat, view_with_hall, view_at_rest}
use Rattle.hall_lock.proofs.Rows.{last_row, past_end, row_grown, grown_not}

-- the laws of the world that a turn rests on
abbrev pub AddsOfItsClient : Type 0
AddsOfItsClient = (s : System) (step : Step) → IsSound s → AddsRowOf (client_in s step) s.history.rows (next s step).history.rows

abbrev pub StayJoined : Type 0
StayJoined = (config : Config) (steps later : List Step) (name : ℕ) → HasJoined (after config steps) name → HasJoined
    (after config (steps ++ later)) name

abbrev pub StayStopped : Type 0
StayStopped = (s : System) (step : Step) (name : ℕ) → HasStopped s name → HasStopped (next s step) name

-- whose row a step of a client, or of no client, may add
owner_named : (client : ℕ) (s : System) (step : Step) → IsStepOfClient client step → (name : ℕ) → client_in s step ≡ Some name
    → Some client ≡ Some name
owner_named client s (step.Join name) may other is = absurd may
owner_named client s (step.Invoke name key action) may other is = ap (λ n. Some n) may ∙ is
owner_named client s (step.Send name replica) may other is = ap (λ n. Some n) may ∙ is
owner_named client s (step.Deliver flight) may other is = absurd may
owner_named client s (step.Lose flight) may other is = none_some is
owner_named client s (step.Repeat flight) may other is = none_some is
owner_named client s (step.Respond name) may other is = ap (λ n. Some n) may ∙ is
owner_named client s (step.StopClient name) may other is = ap (λ n. Some n) may ∙ is
owner_named client s (step.StopReplica number) may other is = absurd may
owner_named client s (step.StartReplica number) may other is = absurd may

owner_none : (s : System) (step : Step) → IsStepOfNoClient step → (name : ℕ) → client_in s step ≡ Some name → None ≡ Some name
owner_none s (step.Join name) may other is = absurd may
owner_none s (step.Invoke name key action) may other is = absurd may
owner_none s (step.Send name replica) may other is = absurd may
owner_none s (step.Deliver flight) may other is = absurd may
owner_none s (step.Lose flight) may other is = is
owner_none s (step.Repeat flight) may other is = is
owner_none s (step.Respond name) may other is = absurd may
owner_none s (step.StopClient name) may other is = absurd may
owner_none s (step.StopReplica number) may other is = is
owner_none s (step.StartReplica number) may other is = is

owner : (client : Option ℕ) (s : System) (step : Step) → IsStepOfPass client step → (name : ℕ) → client_in s step ≡ Some name
    → client ≡ Some name
owner (Some client) s step may name is = owner_named client s step may name is
owner None s step may name is = owner_none s step may name is

-- the rows that a step adds are those of its client
record OwnAdded (client : Option ℕ) (old new : List Row) : Type 0 where
  grown : Grows old new
  own : (place : ℕ) (row : Row) → length old ≤ place → At new place row → IsOwn client new row

none_own : (client : Option ℕ) (old new : List Row) → new ≡ old → OwnAdded client old new
none_own client old new same =
    subst (OwnAdded client old) (sym same) (record { grown = grown_not old; own = λ place row late at. past_end old place row late at })

one_own : (client : Option ℕ) (old new : List Row) (name : ℕ) (row : Row) → client ≡ Some name → IsRowOf old name row
    → new ≡ old ++ row ∷ []
    → OwnAdded client old new
one_own client old new name row named is same =
    let grown : Grows old new = (row ∷ [], same) in
    record {
      grown = grown;
      own = λ place other late at. record {
        name = name;
        named = named;
        is = subst (IsRowOf new name) (last_row old row other place late (subst (λ l. slice_get l place ≡ Some other) same at))
            (row_grown old new grown name row is);
      };
    }

own_added : (client : Option ℕ) (old new : List Row) → AddsRowOf client old new → OwnAdded client old new
own_added client old new (NoRow same) = none_own client old new same
own_added client old new (OneRow name row is of same) = one_own client old new name row is of same

pub same_next : (s : System) (step : Step) → refusal_of s step ≡ None → next s step ≡ system_after s step
same_next s step none = ap (λ o. if is_some o then s else system_after s step) none

joined_on : (old new : Hall) (step : Step) → IsReplay old → IsReplay new → new ≡ with_step old step → StayJoined
    → (name : ℕ) → HasJoined old.world name → HasJoined new.world name
joined_on old new step before after_it same stay name joined =
    let now : new.world ≡ after old.config (old.journal ++ step ∷ []) = after_it.is ∙ ap (λ (h : Hall). after h.config h.journal) same in
    subst (λ s. HasJoined s name) (sym now)
    (stay old.config old.journal (step ∷ []) name (subst (λ s. HasJoined s name) before.is joined))

stopped_on : (old new : Hall) (step : Step) → refusal_of old.world step ≡ None → new ≡ with_step old step → StayStopped
    → (name : ℕ) → HasStopped old.world name → HasStopped new.world name
stopped_on old new step none same stay name stopped =
    subst (λ s. HasStopped s name) (same_next old.world step none ∙ ap (λ (h : Hall). h.world) (sym same))
    (stay old.world step name stopped)

-- what a step that the hall takes adds
took_adds : (old new : Hall) (step : Step) → IsSound old.world → IsReplay old → IsReplay new → AddsOfItsClient → StayJoined → StayStopped
    → refusal_of old.world step ≡ None → new ≡ with_step old step → AddsOwnRows (client_in old.world step) old.world new.world
took_adds old new step sound before after_it rows stay stopped none same =
    let owner = client_in old.world step in
    let is : (next old.world step).history.rows ≡ new.world.history.rows =
    ap (λ (s : System). s.history.rows) (same_next old.world step none ∙ ap (λ (h : Hall). h.world) (sym same)) in
    let added : OwnAdded owner old.world.history.rows new.world.history.rows =
    own_added owner old.world.history.rows new.world.history.rows (subst (AddsRowOf owner old.world.history.rows) is
    (rows old.world step sound)) in
    record {
      grown = added.grown;
      own = added.own;
      joined = λ name joined. joined_on old new step before after_it same stay name joined;
      stopped = λ name is. stopped_on old new step none same stopped name is;
    }

-- a hall that stays as it was adds nothing
pub kept_adds : (client : Option ℕ) (old new : System) → new ≡ old → AddsOwnRows client old new
kept_adds client old new same =
    let added : OwnAdded client old.history.rows new.history.rows =
    none_own client old.history.rows new.history.rows (ap (λ (s : System). s.history.rows) same) in
    record {
      grown = added.grown;
      own = added.own;
      joined = λ name joined. subst (λ s. HasJoined s name) (sym same) joined;
      stopped = λ name is. subst (λ s. HasStopped s name) (sym same) is;
    }

pub takes_add : (old new : Hall) (step : Step) (result : Result Effect Refusal) → IsSound old.world → IsReplay old → IsReplay new
    → AddsOfItsClient → StayJoined → StayStopped → TakesOrRefuses old step result new
    → AddsOwnRows (client_in old.world step) old.world new.world
takes_add old new step (Ok effect) sound before after_it rows stay stopped took =
    took_adds old new step sound before after_it rows stay stopped took.0 took.2
takes_add old new step (Err why) sound before after_it rows stay stopped took =
    kept_adds (client_in old.world step) old.world new.world (ap (λ (h : Hall). h.world) took.1)

-- a response that the hall takes adds a row of its client's call alone
pub response_adds : (old new : Hall) (client : ℕ) (result : Result (OpId × Returned) Memory) → IsSound old.world → IsReplay old
    → IsReplay new → AddsOfItsClient → StayJoined → StayStopped
    → IfOk result (λ answer. TakesOrRefuses old (step.Respond client) (Ok (effect.Responded answer.0)) new)
    → OnOk result (AddsOwnRows (Some client) old.world new.world)
response_adds old new client (Ok answer) sound before after_it rows stay stopped took =
    took_adds old new (step.Respond client) sound before after_it rows stay stopped took.0 took.2
response_adds old new client (Err why) sound before after_it rows stay stopped took = tt

-- whoever owns the rows of the one client owns those of the other
pub owned : (found client : Option ℕ) (old new : System) → ((name : ℕ) → found ≡ Some name → client ≡ Some name)
    → AddsOwnRows found old new → AddsOwnRows client old new
owned found client old new owns adds = record {
  grown = adds.grown;
  own = λ place row late at. let own = adds.own place row late at in record
      { name = own.name; named = owns own.name own.named; is = own.is };
  joined = adds.joined;
  stopped = adds.stopped;
}

-- ---- that the hall may be given back

pub returnable : (v w : View) (old : Hall) (new : System) → w ≡ view_with_hall v old.world → AddsOwnRows v.client old.world new
    → MayReturn w new
returnable v w old new is adds = subst (λ y. MayReturn y new) (sym is) (record {
  old = old.world;
  held = refl;
  adds = adds;
})

pub may_return : (v w : View) (old new : Hall) (step : Step) → IsStepOfPass v.client step → Receives v old w
    → AddsOwnRows (client_in old.world step) old.world new.world → MayReturn w new.world
may_return v w old new step may received adds =
    returnable v w old new.world received.is (owned (client_in old.world step) v.client old.world new.world
    (owner v.client old.world step may) adds)

-- by the pass of a client, whose rows were added
pub seat_returns : (client : ℕ) (v w : View) (old : Hall) (new : System) → v ≡ seat client v.rows v.is_stopped → Receives v old w
    → AddsOwnRows (Some client) old.world new → MayReturn w new
seat_returns client v w old new is received adds =
    returnable v w old new received.is (subst (λ c. AddsOwnRows c old.world new) (sym (ap (λ (y : View). y.client) is)) adds)

-- by a pass without a client, where no rows were added
pub guest_returns : (v w : View) (old : Hall) (new : System) → v ≡ guest v.rows → Receives v old w → AddsOwnRows None old.world new
    → MayReturn w new
guest_returns v w old new is received adds =
    returnable v w old new received.is (subst (λ c. AddsOwnRows c old.world new) (sym (ap (λ (y : View). y.client) is)) adds)

-- by any pass, as it was
pub same_returns : (v w : View) (old new : Hall) → Receives v old w → new ≡ old → MayReturn w new.world
same_returns v w old new received same =
    returnable v w old new.world received.is (kept_adds v.client old.world new.world (ap (λ (h : Hall). h.world) same))

pub unchanged_returns : {v w : View} {hall : Hall} → Receives v hall w → MayReturn w hall.world
unchanged_returns {v} {w} {hall} received = same_returns v w hall hall received refl

-- by the pass of a client, whether rows of its calls were added or the hall is as it was
pub seat_gives : {T E : Type 0} {client : ℕ} {v w : View} {old : Hall} (new : Hall) (r : Result T E) → v ≡ seat client v.rows v.is_stopped
    → Receives v old w → OnOk r (AddsOwnRows (Some client) old.world new.world) → OnErr r (new ≡ old) → MayReturn w new.world
seat_gives {T} {E} {client} {v} {w} {old} new (Ok x) is received adds same = seat_returns client v w old new.world is received adds
seat_gives {T} {E} {client} {v} {w} {old} new (Err e) is received adds same = same_returns v w old new received same

-- the same by a pass without a client
pub guest_gives : {T E : Type 0} {v w : View} {old : Hall} (new : Hall) (r : Result T E) → v ≡ guest v.rows
    → Receives v old w → OnOk r (AddsOwnRows None old.world new.world) → OnErr r (new ≡ old) → MayReturn w new.world
guest_gives {T} {E} {v} {w} {old} new (Ok x) is received adds same = guest_returns v w old new.world is received adds
guest_gives {T} {E} {v} {w} {old} new (Err e) is received adds same = same_returns v w old new received same

pub rested : (v w z : View) (old hall : Hall) → w ≡ view_with_hall v old.world → Returns w hall z → z ≡ view_at_rest v hall.world
rested v w z old hall is returned = returned ∙ ap (λ y. view_at_rest y hall.world) is

pub recorded : (hall : Hall) → IsReplay hall → IsSound hall.world → IsWellFormed hall.world.history.rows
    → AreRecorded hall.world.history.rows
recorded hall replay sound formed = record { hall = hall; replay = replay; sound = sound; is = refl; formed = formed }

pub turned : (v w z : View) (old new : Hall) (step : Step) (result : Result Effect Refusal) → Receives v old w
    → IsReplay old → IsSound old.world → TakesOrRefuses old step result new
    → AreRecorded new.world.history.rows → Returns w new z → KeepsStopped w new.world → Turns v step result z
turned v w z old new step result received replay sound took recorded returned keeps = record {
  before = old;
  after = new;
  replay = replay;
  sound = sound;
  knows = received.knows;
  took = took;
  stays = λ client stopped. keeps old.world client (ap (λ (y : View). y.held) received.is) stopped;
  recorded = recorded;
  is = rested v w z old new received.is returned;
}
