-- Seats that were found to be a closed store's own are so, each of them, and none is another store's.
use Rattle.std.proofs.Common.{◌≡◌, List, length, inl, inr, subst}
use Rattle.node_threads.specs.declared.closing.ClosedHall.{ClosedHall}
use Rattle.node_threads.specs.declared.config.StoreConfig.{StoreConfig}
use Rattle.node_threads.specs.Closings.{AreClosed, AreOfStore, Closes, HasForeign, HaveLogs, IsOfAnotherStore, IsOfStore}
use Rattle.seats.specs.Seats.{Seat}

pub closes : (config : StoreConfig) (seats : List Seat) (halls : List ClosedHall) → length halls ≡ config.halls → AreClosed halls
    → AreOfStore config seats → HaveLogs halls seats → Closes config seats halls
closes config seats halls count closed of logs = record {
  count = count;
  closed = closed;
  own = λ k s is. record { of = of k s is; logs = logs k s is };
}

-- a seat is of one store
pub not_both : (config : StoreConfig) (s : Seat) → IsOfStore config s → IsOfAnotherStore config s → ⊥
not_both config s own (inl store) = store own.store
not_both config s own (inr halls) = halls own.halls

pub none_foreign : (config : StoreConfig) (seats : List Seat) → AreOfStore config seats → HasForeign config seats → ⊥
none_foreign config seats of foreign = not_both config foreign.1 (of foreign.0 foreign.1 foreign.2) foreign.3

-- the same of what the call was given
pub own_given : (seen config : StoreConfig) (looked seats : List Seat) → seen ≡ config → looked ≡ seats → AreOfStore seen looked
    → AreOfStore config seats
own_given seen config looked seats same are of = subst (λ (y : StoreConfig × List Seat). AreOfStore y.0 y.1) (λ i. (same i, are i)) of

pub none_foreign_given : (seen config : StoreConfig) (looked seats : List Seat) → seen ≡ config → looked ≡ seats → AreOfStore seen looked
    → HasForeign config seats → ⊥
none_foreign_given seen config looked seats same are of foreign = none_foreign config seats
    (own_given seen config looked seats same are of) foreign
