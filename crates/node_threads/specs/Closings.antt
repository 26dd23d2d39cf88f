-- What a closed store leaves.
use Rattle.std.specs.Prelude.{ℕ, ◌≡◌, ◌≢◌, ◌⊎◌, List, Some, length, slice_get}
use Rattle.world_steps.specs.Runs.{AreAccepted, after}
use Rattle.world_steps.specs.Systems.{opening}
use Rattle.witness_order.specs.RecordOrders.{Justify}
use Rattle.store_orders.specs.StoreOrders.{IsLinearizableStore}
use Rattle.node_threads.specs.declared.closing.ClosedHall.{ClosedHall}
use Rattle.recorder.specs.Logs.{IsLog, of_hall}
use Rattle.seats.specs.Seats.{Seat}
use Rattle.node_threads.specs.declared.config.StoreConfig.{StoreConfig}

-- the record is what the steps make of the opening world, each of them was accepted, the orders
-- show the record atomic, and all its calls together have one order
pub record IsClosed (closed : ClosedHall) : Type 0 where
  pub is : closed.history ≡ (after closed.config closed.journal.items).history
  pub accepted : AreAccepted (opening closed.config) closed.journal.items
  pub atomic : Justify closed.history.rows closed.orders.items
  pub store : IsLinearizableStore closed.history.rows

-- each of the halls is closed so
abbrev pub AreClosed : List ClosedHall → Type 0
AreClosed halls =
    (hall : ℕ) (closed : ClosedHall) → slice_get halls hall ≡ Some closed → IsClosed closed

-- the seat's entries of each hall are its client's calls in that hall's record
abbrev pub HasLogs : List ClosedHall → Seat → Type 0
HasLogs halls s = (hall : ℕ) (closed : ClosedHall) → slice_get halls hall ≡ Some closed
    → IsLog closed.history.rows s.client (of_hall hall s.log)

-- the seat is of the store that is so configured, and of as many halls
pub record IsOfStore (config : StoreConfig) (s : Seat) : Type 0 where
  pub store : s.store ≡ config.store
  pub halls : length s.passes ≡ config.halls

-- the seat is of a store of another number, or of another count of halls
abbrev pub IsOfAnotherStore : StoreConfig → Seat → Type 0
IsOfAnotherStore config s = (s.store ≢ config.store) ⊎ (length s.passes ≢ config.halls)

-- each of the seats is of the store
abbrev pub AreOfStore : StoreConfig → List Seat → Type 0
AreOfStore config seats = (k : ℕ) (s : Seat) → slice_get seats k ≡ Some s → IsOfStore config s

-- the entries of each of the seats are its client's calls in the halls' records
abbrev pub HaveLogs : List ClosedHall → List Seat → Type 0
HaveLogs halls seats = (k : ℕ) (s : Seat) → slice_get seats k ≡ Some s → HasLogs halls s

-- the seat is one of the closed store's, and its entries are its client's calls in the records
pub record IsSeatOf (config : StoreConfig) (halls : List ClosedHall) (s : Seat) : Type 0 where
  pub of : IsOfStore config s
  pub logs : HasLogs halls s

-- the store is closed: it leaves its halls' records, each shown atomic, and each of the seats is
-- one of its own
pub record Closes (config : StoreConfig) (seats : List Seat) (halls : List ClosedHall) : Type 0
  where
    pub count : length halls ≡ config.halls
    pub closed : AreClosed halls
    pub own : (k : ℕ) (s : Seat) → slice_get seats k ≡ Some s → IsSeatOf config halls s

-- one of the seats is of another store, or of another count of halls
abbrev pub HasForeign : StoreConfig → List Seat → Type 0
HasForeign config seats =
    (k : ℕ) × (s : Seat) × (slice_get seats k ≡ Some s) × IsOfAnotherStore config s
