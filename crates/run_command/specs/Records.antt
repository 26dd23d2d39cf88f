-- The record of a closed store: its histories by hall, and the orders of all its halls.
use Rattle.std.specs.Prelude.{ℕ, ◌≡◌, true, List, [], ◌∷◌, ◌++◌, Option, Some, map, option_map}
use Rattle.std.specs.Prelude.{slice_get}
use Rattle.node_threads.specs.declared.closing.ClosedHall.{ClosedHall}
use Rattle.quorum.specs.Quorums.{Quorums}
use Rattle.recorder.specs.Halls.{RecordedHalls}
use Rattle.recorder.specs.Histories.{Recorded}
use Rattle.recorder.specs.declared.order.KeyOrder.{KeyOrder}
use Rattle.world_steps.specs.Configs.{Config}
use Rattle.world_steps.specs.contracts.config.ConfigPartialEq.TheImpl as comparison

-- the histories of the halls, hall 0 first
abbrev pub histories_in : List ClosedHall → List Recorded
histories_in halls = map (λ h. h.history) halls

-- the orders of the halls, those of hall 0 first
abbrev pub orders_in : List ClosedHall → List KeyOrder
orders_in [] = []
orders_in (closed ∷ halls) = closed.orders.items ++ orders_in halls

-- the configurations are equal: `==` says so
abbrev pub AreEqual : Config → Config → Type 0
AreEqual one other = comparison.eq-value.it one other ≡ true

-- each of the halls has that configuration
abbrev pub AreConfigured : Config → List ClosedHall → Type 0
AreConfigured config halls =
    (hall : ℕ) (closed : ClosedHall) → slice_get halls hall ≡ Some closed
    → AreEqual closed.config config

-- the quorums of closed halls, which have one configuration: those of hall 0
abbrev pub quorums_in : List ClosedHall → Option Quorums
quorums_in halls = option_map (λ h. h.config.quorums) (slice_get halls 0)

-- the histories by hall, with the quorums of the halls
abbrev pub record_of : List ClosedHall → RecordedHalls
record_of halls = record { halls = histories_in halls; quorums = quorums_in halls }
