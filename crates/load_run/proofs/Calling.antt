-- A caller's log, call by call.
use Rattle.std.proofs.Common.{◌≡◌, ◌<◌, ◌+◌, ℕ, List, [], ◌∷◌, ◌++◌, Some, None, length, length-append, slice_get, inl, inr, sym, ap}
use Rattle.std.proofs.Common.{subst, ◌∙◌, arith}
use Rattle.std.proofs.lemmas.List.{length-set}
use Rattle.std.proofs.lemmas.Option.{same_Some}
use Rattle.tag.proofs.Options.{none_some}
use Rattle.tag.proofs.Lists.{each_push}
use Rattle.recorder.specs.declared.part.Response.{Response}
use Rattle.seats.specs.Seats.{IsEntryOf, Seat}
use Rattle.recorder.specs.declared.log_entry.Entry.{Entry}
use Rattle.seats.specs.declared.errors.CallError.{CallError}
use Rattle.node_threads.specs.Joins.{IsNewSeat}
use Rattle.node_threads.specs.declared.config.StoreConfig.{StoreConfig}
use Rattle.load.specs.Turns.{action_at, key_at}
use Rattle.load.specs.declared.turns.Turn.{Turn}
use Rattle.load_run.specs.Callers.{AreOfTurns, EndsRefused, HasCalled, HasMade, IsOfTurn, IsOpenSeat, LeavesCall, MakesCall, RefusesTurn}
use Rattle.load_run.specs.Callers.{reach_in, turn_of}
use Rattle.load_run.specs.declared.callers.Work.{Work}

-- a new seat's calls may begin
pub open_new : (config : StoreConfig) (client : ℕ) (s : Seat) → IsNewSeat config client s → IsOpenSeat config s
open_new config client s new = record { own = record { store = new.store; halls = new.halls }; unspent = new.unspent }

pub made_none : (config : StoreConfig) (work : Work) (s : Seat) → IsNewSeat config work.caller s → HasMade work 0 s
made_none config work s new = record {
  client = new.client;
  turns = λ number entry at. none_some (subst (λ (l : List Entry). slice_get l number ≡ Some entry) new.log at);
  count_is = ap length new.log;
  answered = λ k entry at. none_some (subst (λ (l : List Entry). slice_get l k ≡ Some entry) new.log at);
}

longer : (log now : List Entry) (entry : Entry) (count : ℕ) → length log ≡ count → now ≡ log ++ entry ∷ [] → length now ≡ count + 1
longer log now entry count so_far is = let len : length now ≡ length log + 1 = ap length is ∙ length-append log (entry ∷ []) in omega
    (arith, len, so_far)

of_turns_more : (work : Work) (log now : List Entry) (entry : Entry) (count : ℕ) → AreOfTurns work log → length log ≡ count
    → IsOfTurn (turn_of work count) entry → now ≡ log ++ entry ∷ [] → AreOfTurns work now
of_turns_more work log now entry count so_far len has is = each_push (λ number one. IsOfTurn (turn_of work number) one) log now entry
    so_far is (subst (λ n. IsOfTurn (turn_of work n) entry) (sym len) has)

of_turn : (s : Seat) (hall : ℕ) (turn : Turn) (entry : Entry) → IsEntryOf s hall (key_at turn) (action_at turn) entry → IsOfTurn turn entry
of_turn s hall turn entry of = record { key = of.key_is; action = of.action_is }

pub made_more : (halls : ℕ) (work : Work) (count : ℕ) (old new : Seat) → HasMade work count old
    → MakesCall halls (turn_of work count) old new → HasMade work (count + 1) new
made_more halls work count old new made call =
    let given = call.1 in
    let log : new.log ≡ old.log ++ given.entry ∷ [] = ap (λ s. s.log) given.calls.is in
    record {
      client = ap (λ s. s.client) given.calls.is ∙ made.client;
      turns = of_turns_more work old.log new.log given.entry count made.turns made.count_is
          (of_turn old _ (turn_of work count) given.entry given.calls.of) log;
      count_is = longer old.log new.log given.entry count made.count_is log;
      answered = each_push (λ k one. (response : Response) × (one.response ≡ Some response)) old.log new.log given.entry made.answered log
          (given.response, given.calls.answered);
    }

-- the seat may make further calls
pub open_more : (config : StoreConfig) (halls : ℕ) (turn : Turn) (old new : Seat) → IsOpenSeat config old → MakesCall halls turn old new
    → IsOpenSeat config new
open_more config halls turn old new seat call =
    let given = call.1 in
    record {
      own = record {
        store = ap (λ s. s.store) given.calls.is ∙ seat.own.store;
        halls = ap (λ s. length s.passes) given.calls.is ∙ length-set old.passes _ given.calls.after ∙ seat.own.halls;
      };
      unspent = ap (λ s. s.is_spent) given.calls.is ∙ seat.unspent;
    }

-- all were made
pub called_all : (work : Work) (s : Seat) → HasMade work work.calls s → HasCalled work s None
called_all work s made = record {
  client = made.client;
  turns = made.turns;
  most = let len = made.count_is in omega (arith, len);
  all = λ _. made.count_is;
  answered = λ _. made.answered;
  refused = λ error is. none_some is;
}

some_none : {A B : Type 0} {x : A} → Some x ≡ None → B
some_none e = absurd (cc)

-- one was refused
pub called_some : (work : Work) (count : ℕ) (old new : Seat) (error : CallError) → count < work.calls → HasMade work count old
    → LeavesCall work.halls (turn_of work count) old new
    → RefusesTurn (reach_in work) work.halls (turn_of work count) error old new → HasCalled work new (Some error)
called_some work count old new error below made left refuses =
    let ends : (other : CallError) → Some error ≡ Some other → EndsRefused work other new =
    λ other is. subst (λ (e : CallError). EndsRefused work e new) (same_Some error other is)
    (record { count = count; fewer = below; before = old; made = made; refused = refuses }) in
    elim left [
      | inl not ↦ record {
        client = not.client ∙ made.client;
        turns = subst (AreOfTurns work) (sym not.log) made.turns;
        most = let len : length new.log ≡ count = ap length not.log ∙ made.count_is in omega (arith, len, below);
        all = λ e. some_none e;
        answered = λ e. some_none e;
        refused = ends;
      }
      | inr stays ↦
          let entry = stays.0 in
          let pending = stays.1 in
          let log : new.log ≡ old.log ++ entry ∷ [] = ap (λ s. s.log) pending.is in
          record {
            client = ap (λ s. s.client) pending.is ∙ made.client;
            turns = of_turns_more work old.log new.log entry count made.turns made.count_is
                (of_turn old _ (turn_of work count) entry pending.of) log;
            most = let len : length new.log ≡ count + 1 = longer old.log new.log entry count made.count_is log in omega
                (arith, len, below);
            all = λ e. some_none e;
            answered = λ e. some_none e;
            refused = ends;
          }
    ]
