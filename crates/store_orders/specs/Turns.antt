-- An order of the store, seen key by key.
use Rattle.std.specs.Prelude.{ℕ, ◌≡◌, ◌≢◌, ◌<◌, ◌↔◌, List, Some, length, slice_get, Contains}
use Rattle.tag.specs.declared.actions.Action.{Action}
use Rattle.tag.specs.declared.numbers.OpId.{OpId}
use Rattle.recorder.specs.declared.order.KeyOrder.{KeyOrder}
use Rattle.recorder.specs.declared.row.Row.{Row}
use Rattle.recorder.specs.declared.row.Row.TheVariants.{Invoke}
use Rattle.recorder.specs.declared.part.Call.{Call}
use Rattle.recorder.specs.Records.{IsPart, IsRecorded}
use Rattle.recorder.specs.Orders.{StandsAt, IsOrder}
use Rattle.linearization_points.specs.Points.{AreCalls, KeepsPrecedence}

-- the same calls of the part stand in both lists, in the same turn: one stands before another in
-- the first list exactly if it does in the second
pub record AreInTurn (part : List Call) (xs ys : List OpId) : Type 0 where
  pub there : (i : ℕ) (call : Call) → StandsAt part xs i call → (j : ℕ) × StandsAt part ys j call
  pub back : (j : ℕ) (call : Call) → StandsAt part ys j call → (i : ℕ) × StandsAt part xs i call
  pub same : (i j k l : ℕ) (a b : Call) → StandsAt part xs i a → StandsAt part xs j b
      → StandsAt part ys k a → StandsAt part ys l b → (i < j) ↔ (k < l)

-- each of the orders is the turn of its key
abbrev pub AreTurns : List Row → List KeyOrder → List OpId → Type 0
AreTurns rows orders order = (own : KeyOrder) (part : List Call) → Contains orders own
    → IsPart rows own.key part → AreInTurn part order own.order

-- all calls of the rows, on whatever key, each as it is recorded, in the order of their invocations
pub record AreCallsOf (rows : List Row) (calls : List Call) : Type 0 where
  pub each : (call : Call) → Contains calls call → (key : List ℕ) × IsRecorded rows key call
  pub all : (key : List ℕ) (place : ℕ) (op : OpId) (client : ℕ) (action : Action) → slice_get rows
      place ≡ Some (Invoke op client key action) → (call : Call) × Contains calls call
      × (call.invoked ≡ place)
  pub ordered : (i j : ℕ) (a b : Call) → i < j → slice_get calls i ≡ Some a → slice_get calls j
      ≡ Some b → a.invoked < b.invoked

-- a list of the calls, none twice, no call preceded by one that stands later, whatever their keys,
-- and each key's turn in it an order of the key's part
pub record IsOrderedByKey (rows : List Row) (calls : List Call) (order : List OpId) : Type 0 where
  pub known : AreCalls calls order
  pub once : (i j : ℕ) → i < j → j < length order → slice_get order i ≢ slice_get order j
  pub precedence : KeepsPrecedence calls order
  pub turns : (key : List ℕ) (part : List Call) → IsPart rows key part
      → (turn : List OpId) × AreInTurn part order turn × IsOrder part turn
