-- Calls of the orders of all keys, each with its linearization point. Sorted by their points, they
-- are an order of the store.
use Rattle.std.specs.Prelude.{ℕ, ◌≡◌, ◌≢◌, ◌<◌, ◌++◌, List, Some, length, slice_get, Contains}
use Rattle.std.specs.Prelude.{IsPermutation, IsSorted}
use Rattle.std.specs.List.{AllZip}
use Rattle.std.specs.Ordering.{nat_cmp, then_cmp, on}
use Rattle.std.specs.declared.cmp.Ordering.{Ordering}
use Rattle.tag.specs.declared.numbers.OpId.{OpId}
use Rattle.recorder.specs.declared.order.KeyOrder.{KeyOrder}
use Rattle.recorder.specs.declared.part.Call.{Call}
use Rattle.recorder.specs.Orders.{IsOrder}
use Rattle.linearization_points.specs.Points.{ArePoints}
use Rattle.store_orders.specs.declared.timed_calls.TimedCall.{TimedCall}

-- what calls are sorted by: their points, then their places in their keys' orders, then numbers
abbrev pub timed_cmp : TimedCall → TimedCall → Ordering
timed_cmp = then_cmp (on (λ c. c.point) nat_cmp)
    (then_cmp (on (λ c. c.index) nat_cmp) (on (λ c. c.op.0) nat_cmp))

-- an order of a key's part, and places for its calls
pub record TimedOrder : Type 0 where
  pub key : List ℕ
  pub part : List Call
  pub order : List OpId
  pub points : List ℕ

-- it is an order of that part, under its key, with linearization points
pub record IsTimedOrder (entry : List ℕ × List Call) (timed : TimedOrder) : Type 0 where
  pub key : timed.key ≡ entry.0
  pub part : timed.part ≡ entry.1
  pub ordered : IsOrder timed.part timed.order
  pub placed : ArePoints timed.part timed.order timed.points

-- for each part one of its orders, with linearization points
abbrev pub AreTimedOrders : List (List ℕ × List Call) → List TimedOrder → Type 0
AreTimedOrders parts all = AllZip IsTimedOrder parts all

-- the call stands in the order at its index, and has its point there
pub record IsTimedIn (timed : TimedOrder) (call : TimedCall) : Type 0 where
  pub listed : slice_get timed.order call.index ≡ Some call.op
  pub placed : slice_get timed.points call.index ≡ Some call.point

-- exactly the calls of these orders, none twice
pub record AreTimedCalls (orders : List TimedOrder) (calls : List TimedCall) : Type 0 where
  pub each : (call : TimedCall) → Contains calls call → (timed : TimedOrder)
      × Contains orders timed × IsTimedIn timed call
  pub all : (timed : TimedOrder) (call : TimedCall) → Contains orders timed
      → IsTimedIn timed call → Contains calls call
  pub once : (i j : ℕ) (a b : TimedCall) → i < j → slice_get calls i ≡ Some a → slice_get calls j
      ≡ Some b → a.op ≢ b.op

-- the calls of the first n places of an order with these points, in its order
pub record AreFirstCalls (order : List OpId) (points : List ℕ) (n : ℕ) (calls : List TimedCall) :
    Type 0 where
  pub count : length calls ≡ n
  pub each : (k : ℕ) (call : TimedCall) → slice_get calls k ≡ Some call → (call.index ≡ k)
      × (slice_get order k ≡ Some call.op) × (slice_get points k ≡ Some call.point)

-- all calls of an order, with linearization points of it, come after the others
pub record AddsCalls (part : List Call) (order : List OpId) (old new : List TimedCall) : Type 0
  where
    pub points : List ℕ
    pub placed : ArePoints part order points
    pub more : List TimedCall
    pub are : AreFirstCalls order points (length order) more
    pub added : new ≡ old ++ more

-- no two parts have calls of one number
abbrev pub ShareNoNumber : List (List ℕ × List Call) → Type 0
ShareNoNumber parts = (k l : ℕ) (p q : List ℕ × List Call) (a b : Call) → k < l
    → slice_get parts k ≡ Some p → slice_get parts l ≡ Some q → Contains p.1 a → Contains q.1 b
    → a.op ≢ b.op

-- the calls of the given orders of the parts, each with a point of its order
pub record AreCallsWithPoints (parts : List (List ℕ × List Call)) (orders : List KeyOrder)
    (calls : List TimedCall) : Type 0 where
  pub all : List TimedOrder
  pub timed : AreTimedOrders parts all
  pub given : AllZip (λ own timed. own.order ≡ timed.order) orders all
  pub calls_are : AreTimedCalls all calls

-- these calls, sorted
pub record AreSortedCalls (parts : List (List ℕ × List Call)) (orders : List KeyOrder)
    (calls : List TimedCall) : Type 0 where
  pub made : List TimedCall
  pub are : AreCallsWithPoints parts orders made
  pub moved : IsPermutation made calls
  pub sorted : IsSorted timed_cmp calls
