-- What a turn of a pass without a client leaves.
use Rattle.std.proofs.Common.{◌≡◌, ℕ, List, [], Option, Some, None, option_map, Result, Err, refl, sym, ap, ◌∙◌, subst}
use Rattle.std.specs.FinMap as finite
use Rattle.std.specs.Ordering.{nat_cmp}
use Rattle.tag.proofs.Options.{none_some}
use Rattle.client_phases.specs.Clients.{phase_of}
use Rattle.network.specs.declared.messages.Message.{Message}
use Rattle.network.specs.declared.messages.Message.TheVariants.{ToReplica, ToClient}
use Rattle.recorder.specs.Histories.{Recorded}
use Rattle.recorder.specs.declared.row.Row.{Row}
use Rattle.world_steps.specs.Configs.{Config, config_of}
use Rattle.world_steps.specs.Lasting.{Grows, HasJoined, HasStopped, receiver}
use Rattle.world_steps.specs.Refusals.{is_stopped}
use Rattle.world_steps.specs.SoundSystems.{IsSound}
use Rattle.world_steps.specs.Systems.{opening}
use Rattle.world_steps.specs.declared.effect.Effect.{Effect}
use Rattle.world_steps.specs.declared.refusal.Refusal.{Refusal}
use Rattle.world_steps.specs.declared.step.Step.{Step}
use Rattle.world_steps.specs.declared.system.System.{System}
use Rattle.hall_journal.specs.Halls.{Hall, IsReplay, TakesOrRefuses, opening_hall}
use Rattle.hall_lock.specs.declared.rule.View.{View}
use Rattle.hall_lock.specs.Turns.{AreRecorded, DeliversFlight, IsCopied, IsTold, IsToReplica, MayReturn, Receives, Returns, ServesFlight}
use Rattle.hall_lock.specs.Turns.{ServesStep, Turns, guest, maker, view_at_rest}
use Rattle.hall_lock.proofs.Rows.{none_stopped, grown_not}
use Rattle.hall_lock.proofs.OneTurn.{rested}

-- a request is for no client
pub to_replica : (replica : ℕ) (message : Option Message) → IsToReplica replica message → receiver message ≡ None
to_replica replica None is = absurd is
to_replica replica (Some (ToReplica number request)) is = refl
to_replica replica (Some (ToClient name reply)) is = absurd is

pub guest_recorded : (z : View) (hall : Hall) → z ≡ guest hall.world.history.rows → AreRecorded hall.world.history.rows
    → (z ≡ guest z.rows) × AreRecorded z.rows
guest_recorded z hall is recorded =
    let rows : z.rows ≡ hall.world.history.rows = ap (λ (y : View). y.rows) is in
    (is ∙ ap guest (sym rows), subst AreRecorded (sym rows) recorded)

pub free_turn : (v w z : View) (old new : Hall) → v ≡ guest v.rows → Receives v old w → Returns w new z → z ≡ guest new.world.history.rows
free_turn v w z old new is received returned = rested v w z old new received.is returned ∙ ap (λ y. view_at_rest y new.world) is

-- a pass without a client, once it has given the hall back
pub guest_left : {v w z : View} {old : Hall} (new : Hall) → v ≡ guest v.rows → Receives v old w → Returns w new z
    → AreRecorded new.world.history.rows → (z ≡ guest z.rows) × AreRecorded z.rows
guest_left {v} {w} {z} {old} new is received returned recorded =
    guest_recorded z new (free_turn v w z old new is received returned) recorded

pub served : (v w : View) (step : Step) (result : Result Effect Refusal) → Turns v step result w → ServesStep v.rows step result w.rows
served v w step result turn = record {
  before = turn.before;
  after = turn.after;
  replay = turn.replay;
  sound = turn.sound;
  grown = turn.knows.seen;
  took = turn.took;
  is = ap
      (λ (y : View). y.rows) turn.is;
}

pub guest_turned : (v w : View) (step : Step) (result : Result Effect Refusal) → v ≡ guest v.rows → Turns v step result w
    → (w ≡ guest w.rows) × AreRecorded w.rows
guest_turned v w step result is turn = guest_recorded w turn.after (turn.is ∙ ap (λ y. view_at_rest y turn.after.world) is) turn.recorded

pub served_flight : (v w z : View) (old new : Hall) (replica flight : ℕ) (result : Result Effect Refusal) → Receives v old w
    → Returns w new z → IsReplay old → IsSound old.world → DeliversFlight (IsToReplica replica) old flight result new
    → ServesFlight v.rows replica flight result z.rows
served_flight v w z old new replica flight result received returned replay sound delivered = record {
  before = old;
  after = new;
  replay = replay;
  sound = sound;
  grown = received.knows.seen;
  delivered = delivered;
  is = ap (λ (y : View). y.rows) (rested v w z old new received.is returned);
}

-- the hall refused a step, and was given back
pub refused : {v w z : View} {old new : Hall} {step : Step} {why : Refusal} → Receives v old w → Returns w new z → IsReplay old
    → IsSound old.world → TakesOrRefuses old step (Err why) new → (rows : List Row) × ServesStep v.rows step (Err why) rows
refused {v} {w} {z} {old} {new} {step} {why} received returned replay sound took = (
  z.rows,
  record {
    before = old;
    after = new;
    replay = replay;
    sound = sound;
    grown = received.knows.seen;
    took = took;
    is = ap (λ (y : View). y.rows) (rested v w z old new received.is returned);
  },
)

pub grown_by : (v w z : View) (old new : Hall) → Receives v old w → Returns w new z → new ≡ old → Grows v.rows z.rows
grown_by v w z old new received returned same =
    let rows : z.rows ≡ old.world.history.rows = ap (λ (y : View). y.rows) (rested v w z old new received.is returned) ∙ ap
    (λ (h : Hall). h.world.history.rows) same in
    subst (Grows v.rows) (sym rows) received.knows.seen

-- a copy of the record that was told of
pub copied : {seen : List Row} {Told : System → Type 0} {history : Recorded} → (told : IsTold seen Told) → history ≡ told.hall.world.history
    → IsCopied seen history
copied {seen} {Told} {history} told is = record {
  hall = told.hall;
  replay = told.replay;
  sound = told.sound;
  grown = subst (λ (h : Recorded). Grows seen h.rows) (sym is) told.grown;
  is = is;
}

-- ---- a new hall

nobody : (config : Config) (name : ℕ) → HasJoined (opening config) name → {A : Type 0} → A
nobody config name joined = none_some (sym (finite.get-empty nat_cmp name) ∙ joined.1)

none_halted : (config : Config) (name : ℕ) → HasStopped (opening config) name → {A : Type 0} → A
none_halted config name is = none_stopped (sym (ap (λ o. is_stopped (option_map phase_of o)) (finite.get-empty nat_cmp name)) ∙ is)

pub opens : (config : Config) (hall : Hall) (door : View) → hall ≡ opening_hall config → door ≡ maker → MayReturn door hall.world
opens config hall door is made = subst (λ (y : View × Hall). MayReturn y.0 y.1.world) (λ i. (sym made i, sym is i)) (record {
  old = opening (config_of 1 1 1);
  held = refl;
  adds = record {
    grown = grown_not [];
    own = λ place row late at. none_some at;
    joined = λ name joined. nobody (config_of 1 1 1) name joined;
    stopped = λ name is. none_halted (config_of 1 1 1) name is;
  };
})
