-- What a caller's calls come to.
use Rattle.std.specs.Prelude.{ℕ, ◌≡◌, ◌<◌, ◌≤◌, ◌+◌, ◌⊎◌, false, List, Option, Some, None, length}
use Rattle.std.specs.Prelude.{slice_get}
use Rattle.recorder.specs.Halls.{hall_of}
use Rattle.recorder.specs.Logs.{AreAnswered}
use Rattle.recorder.specs.declared.log_entry.Entry.{Entry}
use Rattle.seats.specs.Answers.{FailsWith, HasReason, IsAnswered, LeavesUnanswered}
use Rattle.seats.specs.Rounds.{Reach}
use Rattle.seats.specs.Seats.{Seat}
use Rattle.seats.specs.declared.errors.CallError.{CallError}
use Rattle.seats.specs.declared.errors.CallError.TheVariants as fault
use Rattle.seats.specs.declared.seat.Answer.{Answer}
use Rattle.node_threads.specs.Closings.{IsOfStore}
use Rattle.node_threads.specs.Joins.{IsNewSeat}
use Rattle.node_threads.specs.Stores.{reach_of}
use Rattle.node_threads.specs.declared.config.StoreConfig.{StoreConfig}
use Rattle.load.specs.Ranges.{IsIn, keys_range}
use Rattle.load.specs.Turns.{action_at, key_at}
use Rattle.load.specs.declared.load.LoadOptions.{LoadOptions}
use Rattle.load.specs.declared.turns.Turn.{Turn}
use Rattle.load_run.specs.declared.callers.Called.{Called}
use Rattle.load_run.specs.declared.callers.Work.{Work}

-- so many keys as a load may have
abbrev pub AreKeys : ℕ → Type 0
AreKeys keys = IsIn keys_range keys

-- the work of a caller of the load, in the load's store
abbrev pub work_of : LoadOptions → ℕ → Work
work_of load caller = record {
  keys = load.keys;
  calls = load.calls;
  caller = caller;
  halls = load.halls;
  replicas = length load.quorums.votes;
  rounds = load.rounds;
}

-- what a call of the work has to reach its replicas
abbrev pub reach_in : Work → Reach
reach_in work = record { replicas = work.replicas; rounds = work.rounds }

-- the work is done in a store that is so configured
pub record IsDoneIn (config : StoreConfig) (work : Work) : Type 0 where
  pub halls : config.halls ≡ work.halls
  pub reach : reach_of config ≡ reach_in work

-- the seat may make calls in that store
pub record IsOpenSeat (config : StoreConfig) (s : Seat) : Type 0 where
  pub own : IsOfStore config s
  pub unspent : s.is_spent ≡ false

-- the turn of that number
abbrev pub turn_of : Work → ℕ → Turn
turn_of work number = record { keys = work.keys; caller = work.caller; number = number }

-- the entry is of the turn's call
pub record IsOfTurn (turn : Turn) (entry : Entry) : Type 0 where
  pub key : entry.key ≡ key_at turn
  pub action : entry.action ≡ action_at turn

-- the turn's call was answered, in the hall of its key
abbrev pub MakesCall : ℕ → Turn → Seat → Seat → Type 0
MakesCall halls turn old new = (answer : Answer)
    × IsAnswered old (hall_of halls (key_at turn)) (key_at turn) (action_at turn) answer new

-- the turn's call wasn't answered: it didn't begin, or it is pending
abbrev pub LeavesCall : ℕ → Turn → Seat → Seat → Type 0
LeavesCall halls turn old new =
    LeavesUnanswered old (hall_of halls (key_at turn)) (key_at turn) (action_at turn) new

module _ (reach : Reach) (halls : ℕ) (turn : Turn) where
  -- the store refused the turn's call: the error says what it left, and has its reason
  pub record RefusesCall (error : CallError) (old new : Seat) : Type 0 where
    pub failed :
        FailsWith error old (hall_of halls (key_at turn)) (key_at turn) (action_at turn) new
    pub reason : HasReason reach error old (hall_of halls (key_at turn)) (key_at turn)
        (action_at turn) new

  -- the turn's call was refused with that error: by the store; or there was no memory to make it,
  -- and the seat is as it was
  abbrev pub RefusesTurn : CallError → Seat → Seat → Type 0
  RefusesTurn error old new =
      RefusesCall error old new ⊎ ((error ≡ fault.Memory) × (new ≡ old))

-- each of the seats is its client's new one in that store
abbrev pub AreNew : StoreConfig → List Seat → Type 0
AreNew config seats =
    (k : ℕ) (s : Seat) → slice_get seats k ≡ Some s → IsNewSeat config s.client s

-- clients 1, 2 and so on, so many, have just joined that store
pub record AreSeated (config : StoreConfig) (callers : ℕ) (seats : List Seat) : Type 0 where
  pub count : length seats ≡ callers
  pub each : (k : ℕ) (s : Seat) → slice_get seats k ≡ Some s → IsNewSeat config (k + 1) s

-- the entries are of the caller's turns, from the first on, in order
abbrev pub AreOfTurns : Work → List Entry → Type 0
AreOfTurns work log = (number : ℕ) (entry : Entry) → slice_get log number ≡ Some entry
    → IsOfTurn (turn_of work number) entry

-- the caller made the calls of its first so many turns, in order, each answered
pub record HasMade (work : Work) (count : ℕ) (s : Seat) : Type 0 where
  pub client : s.client ≡ work.caller
  pub turns : AreOfTurns work s.log
  pub count_is : length s.log ≡ count
  pub answered : AreAnswered s.log

-- the caller's first calls were answered, and the next, its last, was refused with that error
pub record EndsRefused (work : Work) (error : CallError) (s : Seat) : Type 0 where
  pub count : ℕ
  pub fewer : count < work.calls
  pub before : Seat
  pub made : HasMade work count before
  pub refused : RefusesTurn (reach_in work) work.halls (turn_of work count) error before s

-- the caller made the calls of its turns, in order: all of them, each answered, unless one was
-- refused, which was its last
pub record HasCalled (work : Work) (s : Seat) (refusal : Option CallError) : Type 0 where
  pub client : s.client ≡ work.caller
  pub turns : AreOfTurns work s.log
  pub most : length s.log ≤ work.calls
  pub all : refusal ≡ None → length s.log ≡ work.calls
  pub answered : refusal ≡ None → AreAnswered s.log
  pub refused : (error : CallError) → refusal ≡ Some error → EndsRefused work error s

-- a caller's thread did its work
abbrev pub IsCalled : Work → Called → Type 0
IsCalled work called = HasCalled work called.seat called.refusal

-- the callers of these seats, in their order, and each made its calls
pub record AreOfSeats (load : LoadOptions) (seats : List Seat) (callers : List Called) : Type 0
  where
    pub count : length callers ≡ length seats
    pub each : (k : ℕ) (called : Called) (s : Seat) → slice_get callers k ≡ Some called
        → slice_get seats k ≡ Some s → IsCalled (work_of load s.client) called

-- as many callers as the load has: 1, 2 and so on, and each made its calls
pub record AreCalled (load : LoadOptions) (callers : List Called) : Type 0 where
  pub count : length callers ≡ load.callers
  pub each : (k : ℕ) (called : Called) → slice_get callers k ≡ Some called
      → IsCalled (work_of load (k + 1)) called
