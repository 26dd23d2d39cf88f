-- The orders that justify the records of a row of halls are of different keys, since each key has one hall, and one part there.
use Rattle.std.proofs.Common.{◌≡◌, ◌<◌, ◌+◌, ℕ, zero, suc, List, [], ◌∷◌, Some, inl, inr, length, sym, subst, ap, refl, ◌∙◌, arith}
use Rattle.std.specs.List.{slice_get}
use Rattle.std.specs.Option.{option_map}
use Rattle.std.proofs.lemmas.List.Elements.{All-get_or}
use Rattle.std.proofs.lemmas.Option.{get_or_from_slice_get, same_Some, slice_get-map, slice_get_within}
use Rattle.recorder.specs.Halls.{AreHalls, FallsTo, IsHallOf, hall_of}
use Rattle.recorder.specs.Records.{IsFirstSeen}
use Rattle.recorder.specs.declared.order.KeyOrder.{KeyOrder}
use Rattle.recorder.specs.declared.part.Call.{Call}
use Rattle.recorder.specs.declared.row.Row.{Row}
use Rattle.recorder.specs.declared.row.Row.TheVariants.{Invoke}
use Rattle.tag.proofs.Lists.{Contains-slice_get, append_cases}
use Rattle.tag.proofs.Options.{none_some}
use Rattle.witness_order.specs.RecordOrders.{AreOrdersOf, Justify}
use Rattle.node_threads.specs.declared.closing.ClosedHall.{ClosedHall}
use Rattle.node_threads.specs.Closings.{AreClosed}
use Rattle.parallel_keys.specs.CheckedKeys.{AreDistinct}
use Rattle.run_command.specs.Records.{histories_in, orders_in, record_of}

-- the part of the order at a place
part_at : (parts : List (List ℕ × List Call)) (orders : List KeyOrder) (i : ℕ) (a : KeyOrder) → AreOrdersOf parts orders → slice_get orders i ≡ Some a
    → (part : List Call) × (slice_get parts i ≡ Some (a.key, part))
part_at [] [] i a zipped at = none_some at
part_at [] (y ∷ ys) i a zipped at = absurd zipped
part_at (x ∷ xs) [] i a zipped at = none_some at
part_at (x ∷ xs) (y ∷ ys) zero a zipped at =
    let same : y ≡ a = same_Some y a at in
    let key : x.0 ≡ a.key = sym zipped.0.0 ∙ ap (λ (o : KeyOrder). o.key) same in
    (x.1, ap (λ (k : List ℕ). Some (k, x.1)) key)
part_at (x ∷ xs) (y ∷ ys) (suc i) a zipped at = part_at xs ys i a zipped.1 at

-- a hall's orders are of different keys, since its parts are
distinct : (rows : List Row) (orders : List KeyOrder) → Justify rows orders → AreDistinct orders
distinct rows orders justified i j a b lt at_i at_j same =
    let parts = justified.0 in
    let recorded = justified.1 in
    let first = part_at parts orders i a justified.2 at_i in
    let second = part_at parts orders j b justified.2 at_j in
    let seen = recorded.seen a.key first.0 (Contains-slice_get parts i (a.key, first.0) first.1) in
    let again : IsFirstSeen rows b.key seen.0 = subst (λ k. IsFirstSeen rows k seen.0) same seen.1 in
    let below : seen.0 < seen.0 = recorded.ordered i j a.key b.key first.0 second.0 seen.0 seen.0 lt first.1 second.1 seen.1 again in
    omega (arith, below)

-- each of the orders is of a key of that hall
abbrev AreInHall : ℕ → ℕ → List KeyOrder → Type 0
AreInHall count hall orders = (i : ℕ) (a : KeyOrder) → slice_get orders i ≡ Some a → hall_of count a.key ≡ hall

falls : (count hall : ℕ) (rows : List Row) (k : ℕ) (row : Row) → IsHallOf count hall rows → slice_get rows k ≡ Some row → FallsTo count hall row
falls count hall rows k row all at =
    subst (FallsTo count hall) (get_or_from_slice_get rows k row row at) (All-get_or (FallsTo count hall) rows k row (slice_get_within rows k row at) all)

-- a hall's orders are of its keys, since each of its parts has a call
in_hall : (count hall : ℕ) (rows : List Row) (orders : List KeyOrder) → IsHallOf count hall rows → Justify rows orders → AreInHall count hall orders
in_hall count hall rows orders all justified i a at =
    let part = part_at justified.0 orders i a justified.2 at in
    let seen = justified.1.seen a.key part.0 (Contains-slice_get justified.0 i (a.key, part.0) part.1) in
    let begins = seen.1.begins in
    falls count hall rows seen.0 (Invoke begins.0 begins.1 a.key begins.2) all begins.3

-- the halls are those from a number on, each with orders of different keys, which are its own
record AreOwn (count first : ℕ) (halls : List ClosedHall) : Type 0 where
  distinct : (k : ℕ) (closed : ClosedHall) → slice_get halls k ≡ Some closed → AreDistinct closed.orders.items
  keys : (k : ℕ) (closed : ClosedHall) → slice_get halls k ≡ Some closed → AreInHall count (first + k) closed.orders.items

own_rest : (count first : ℕ) (closed : ClosedHall) (halls : List ClosedHall) → AreOwn count first (closed ∷ halls) → AreOwn count (first + 1) halls
own_rest count first closed halls own = record {
  distinct = λ k one at. own.distinct (suc k) one at;
  keys = λ k one at. let place : first + suc k ≡ first + 1 + k = omega arith in subst (λ n. AreInHall count n one.orders.items) place (own.keys (suc k) one at);
}

-- an order of one of the halls is of a key of that hall
from_hall : (count first : ℕ) (halls : List ClosedHall) → AreOwn count first halls → (i : ℕ) (a : KeyOrder) → slice_get (orders_in halls) i ≡ Some a → (k : ℕ) × (hall_of count a.key ≡ first + k)
from_hall count first [] own i a at = none_some at
from_hall count first (closed ∷ halls) own i a at = elim (append_cases closed.orders.items (orders_in halls) i a at) [
  | inl v ↦ (0, own.keys 0 closed refl i a v)
  | inr v ↦
      let later = from_hall count (first + 1) halls (own_rest count first closed halls own) v.0 a v.2 in
      (suc later.0, omega (arith, later.1))
]

own_distinct : (count first : ℕ) (halls : List ClosedHall) → AreOwn count first halls → AreDistinct (orders_in halls)
own_distinct count first [] own i j a b lt at_i at_j same = none_some at_i
own_distinct count first (closed ∷ halls) own i j a b lt at_i at_j same = elim (append_cases closed.orders.items (orders_in halls) j b at_j) [
  | inl v ↦ elim (append_cases closed.orders.items (orders_in halls) i a at_i) [
    | inl w ↦ own.distinct 0 closed refl i j a b lt w v same
    | inr w ↦ absurd (omega (arith, lt, w.1, slice_get_within closed.orders.items j b v))
  ]
  | inr v ↦
      let rest = own_rest count first closed halls own in
      elim (append_cases closed.orders.items (orders_in halls) i a at_i) [
        | inl w ↦
            let later = from_hall count (first + 1) halls rest v.0 b v.2 in
            absurd (omega (arith, own.keys 0 closed refl i a w, later.1, ap (hall_of count) same))
        | inr w ↦ own_distinct count (first + 1) halls rest w.0 v.0 a b (omega (arith, lt, w.1, v.1)) w.2 v.2 same
      ]
]

-- the orders that closed halls leave, where the halls' records are histories by hall
pub joined_distinct : (halls : List ClosedHall) → AreClosed halls → AreHalls (record_of halls) → AreDistinct (orders_in halls)
joined_distinct halls closed are = own_distinct (length (histories_in halls)) 0 halls (record {
  distinct = λ k one at. distinct one.history.rows one.orders.items (closed k one at).atomic;
  keys = λ k one at.
      let there : slice_get (histories_in halls) k ≡ Some one.history = slice_get-map (λ (h : ClosedHall). h.history) halls k ∙ ap (option_map (λ (h : ClosedHall). h.history)) at in
      let zero_on : k ≡ 0 + k = omega arith in
      subst (λ n. AreInHall (length (histories_in halls)) n one.orders.items) zero_on
      (in_hall (length (histories_in halls)) k one.history.rows one.orders.items (are.keys k one.history there) (closed k one at).atomic);
})
