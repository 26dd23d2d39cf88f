-- What becomes of a client that joins.
use Rattle.std.specs.Prelude.{ℕ, ◌≡◌, false, List, [], Some, length, slice_get}
use Rattle.recorder.specs.declared.row.Row.{Row}
use Rattle.world_steps.specs.declared.refusal.Refusal.{Refusal}
use Rattle.world_steps.specs.declared.refusal.Refusal.TheVariants as refusal
use Rattle.hall_lock.specs.Turns.{ClientView, RefusesJoin}
use Rattle.node_threads.specs.declared.errors.JoinError.{JoinError}
use Rattle.node_threads.specs.declared.errors.JoinError.TheVariants as error
use Rattle.node_threads.specs.declared.config.StoreConfig.{StoreConfig}
use Rattle.seats.specs.Seats.{AreStopped, Seat, seen_in}

-- a new seat of the client in the store that is so configured, with a pass to each of its halls: it
-- has made no call and seen nothing
pub record IsNewSeat (config : StoreConfig) (name : ℕ) (s : Seat) : Type 0 where
  pub store : s.store ≡ config.store
  pub client : s.client ≡ name
  pub unspent : s.is_spent ≡ false
  pub log : s.log ≡ []
  pub seen : (hall : ℕ) → seen_in s hall ≡ 0
  pub halls : length s.passes ≡ config.halls

-- the passes are the client's
abbrev pub AreOfClient : ℕ → List ClientView → Type 0
AreOfClient client passes =
    (k : ℕ) (pass : ClientView) → slice_get passes k ≡ Some pass → pass.client ≡ client

-- the passes are the client's in so many halls, and it is stopped in each
pub record AreOfStoppedClient (client halls : ℕ) (passes : List ClientView) : Type 0 where
  pub count : length passes ≡ halls
  pub own : AreOfClient client passes
  pub stopped : AreStopped passes

-- the error of a client that a hall refuses
abbrev pub join_error_of : Refusal → JoinError
join_error_of refusal.Memory = error.Memory
join_error_of other = error.ClientTaken

-- why a client has no seat: an allocation failed; or a hall refused that it joins, and the error
-- tells why
pub data IsNotJoined (client : ℕ) (told : JoinError) : Type 0 where
  NoMemory : told ≡ error.Memory → IsNotJoined client told
  Refused : (seen : List Row) (why : Refusal) → RefusesJoin seen client why
      → told ≡ join_error_of why → IsNotJoined client told
