-- Orders of parts with their points, and the calls in them.
use Rattle.std.proofs.Common.{ℕ, zero, suc, ◌≡◌, ◌<◌, ◌≤◌, inl, inr, List, [], ◌∷◌, Some, sym, ◌∙◌, subst, refl, arith}
use Rattle.std.specs.List.{slice_get, Contains, AllZip}
use Rattle.std.proofs.lemmas.Bool.{cases_lt}
use Rattle.std.proofs.lemmas.Option.{same_Some, slice_get_within, get_or_from_slice_get}
use Rattle.tag.specs.declared.numbers.OpId.{OpId}
use Rattle.tag.proofs.Lists.{get_at, place_of, Contains-slice_get}
use Rattle.tag.proofs.Options.{none_some}
use Rattle.recorder.specs.declared.row.Row.{Row}
use Rattle.recorder.specs.declared.part.Call.{Call}
use Rattle.recorder.specs.Histories.{IsWellFormed}
use Rattle.recorder.specs.Orders.{StandsAt, IsOrder}
use Rattle.recorder.specs.Records.{AreParts, IsFirstSeen, IsPart, IsRecorded}
use Rattle.store_orders.specs.TimedCalls.{TimedOrder, IsTimedOrder, AreTimedOrders, IsTimedIn, ShareNoNumber}
use Rattle.store_orders.specs.declared.timed_calls.TimedCall.{TimedCall}
use Rattle.store_orders.proofs.Recorded.{same_key, same_call, same_place, in_part}

-- ---- two lists, item for item

pub zip_at : {A B : Type 0} (R : A → B → Type 0) (xs : List A) (ys : List B) → AllZip R xs ys → (k : ℕ) (x : A) → slice_get xs k ≡ Some x
    → (y : B) × (slice_get ys k ≡ Some y) × R x y
zip_at R [] ys zipped k x at = none_some at
zip_at R (x ∷ xs) [] zipped k z at = absurd zipped
zip_at R (x ∷ xs) (y ∷ ys) zipped zero z at = (y, refl, subst (λ w. R w y) (same_Some x z at) zipped.0)
zip_at R (x ∷ xs) (y ∷ ys) zipped (suc k) z at = zip_at R xs ys zipped.1 k z at

pub zip_back : {A B : Type 0} (R : A → B → Type 0) (xs : List A) (ys : List B) → AllZip R xs ys → (k : ℕ) (y : B) → slice_get ys k ≡ Some y
    → (x : A) × (slice_get xs k ≡ Some x) × R x y
zip_back R xs [] zipped k y at = none_some at
zip_back R [] (y ∷ ys) zipped k z at = absurd zipped
zip_back R (x ∷ xs) (y ∷ ys) zipped zero z at = (x, refl, subst (λ w. R x w) (same_Some y z at) zipped.0)
zip_back R (x ∷ xs) (y ∷ ys) zipped (suc k) z at = zip_back R xs ys zipped.1 k z at

-- ---- a call of an order

-- a place has one number
pub one_index : (part : List Call) (order : List OpId) → IsOrder part order → (i j : ℕ) (op : OpId) → slice_get order i ≡ Some op
    → slice_get order j ≡ Some op → i ≡ j
one_index part order is i j op at_i at_j = elim (cases_lt i j) [
  | inl h ↦ absurd (is.once i j h (slice_get_within order j op at_j) (at_i ∙ sym at_j))
  | inr h ↦ elim (cases_lt j i) [
    | inl g ↦ absurd (is.once j i g (slice_get_within order i op at_i) (at_j ∙ sym at_i))
    | inr g ↦ omega arith
  ]
]

-- a timed call is a call of the part
pub timed_call : (entry : List ℕ × List Call) (t : TimedOrder) → IsTimedOrder entry t → (c : TimedCall) → IsTimedIn t c
    → (call : Call) × StandsAt t.part t.order c.index call × (call.op ≡ c.op)
timed_call entry t is c timed =
    let known = is.ordered.known c.index (slice_get_within t.order c.index c.op timed.listed) in
    (known.0, known.1, same_Some known.0.op c.op (sym known.1.listed ∙ timed.listed))

-- each call of the order is timed
pub timed_at : (entry : List ℕ × List Call) (t : TimedOrder) → IsTimedOrder entry t → (k : ℕ) (call : Call) → StandsAt t.part t.order k call
    → (c : TimedCall) × IsTimedIn t c × (c.index ≡ k) × (c.op ≡ call.op)
timed_at entry t is k call stands =
    let point = get_at t.points k (omega (arith, is.placed.all, slice_get_within t.order k call.op stands.listed)) in
    (record { point = point.0; index = k; op = call.op }, record { listed = stands.listed; placed = point.1 }, refl, refl)

-- along an order points don't fall
pub points_up : (entry : List ℕ × List Call) (t : TimedOrder) → IsTimedOrder entry t → (c d : TimedCall) → IsTimedIn t c → IsTimedIn t d
    → c.index < d.index → c.point ≤ d.point
points_up entry t is c d x y less =
    let up = is.placed.rising c.index d.index 0 (omega arith) (slice_get_within t.points d.index d.point y.placed) in
    let low = get_or_from_slice_get t.points c.index c.point 0 x.placed in
    let high = get_or_from_slice_get t.points d.index d.point 0 y.placed in
    omega (arith, up, low, high)

-- ---- the orders of all parts of a history

module _ (rows : List Row) (formed : IsWellFormed rows) (parts : List (List ℕ × List Call)) (of : AreParts rows parts) where
  -- a number is on one key
  pub share_none : ShareNoNumber parts
  share_none = λ k l p q a b less at_k at_l in_a in_b same.
      let here = Contains-slice_get parts k p at_k in
      let x = (of.each p.0 p.1 here).each a in_a in
      let y = (of.each q.0 q.1 (Contains-slice_get parts l q at_l)).each b in_b in
      let key : p.0 ≡ q.0 = same_key rows p.0 q.0 a b x y (same_place rows formed p.0 q.0 a b x y same) in
      let seen = of.seen p.0 p.1 here in
      let again = subst (λ (key : List ℕ). IsFirstSeen rows key seen.0) key seen.1 in
      let up = of.ordered k l p.0 q.0 p.1 q.1 seen.0 seen.0 less at_k at_l seen.1 again in
      omega (arith, up)

  module _ (all : List TimedOrder) (timed : AreTimedOrders parts all) where
    pub own : (k : ℕ) (t : TimedOrder) → slice_get all k ≡ Some t → (entry : List ℕ × List Call) × (slice_get parts k ≡ Some entry)
        × IsTimedOrder entry t
    own k t at = zip_back IsTimedOrder parts all timed k t at

    pub own_part : (k : ℕ) (t : TimedOrder) → slice_get all k ≡ Some t → IsPart rows t.key t.part
    own_part k t at =
        let entry = own k t at in
        let is = of.each entry.0.0 entry.0.1 (Contains-slice_get parts k entry.0 entry.1) in
        subst (λ (key : List ℕ). IsPart rows key t.part) (sym entry.2.key)
        (subst (λ (part : List Call). IsPart rows entry.0.0 part) (sym entry.2.part) is)

    -- the order in which a call may stand
    pub own_order : (key : List ℕ) (call : Call) → IsRecorded rows key call → (k : ℕ) × (t : TimedOrder) × (slice_get all k ≡ Some t)
        × (t.key ≡ key) × Contains t.part call
    own_order key call recorded =
        let has = of.all key call.invoked (call.op, call.client, call.action, recorded.begun) in
        let k = place_of parts (key, has.0) has.1 in
        let t = zip_at IsTimedOrder parts all timed k.0 (key, has.0) k.1 in
        let is = subst (λ (own : List ℕ). IsPart rows own t.0.part) t.2.key (own_part k.0 t.0 t.1) in
        (k.0, t.0, t.1, t.2.key, in_part rows key t.0.part is call recorded)

    -- a number stands in one order
    pub one_order : (k l : ℕ) (t u : TimedOrder) (a b : Call) → slice_get all k ≡ Some t → slice_get all l ≡ Some u → Contains t.part a
        → Contains u.part b → a.op ≡ b.op → k ≡ l
    one_order k l t u a b at_k at_l in_a in_b same =
        let x = own k t at_k in
        let y = own l u at_l in
        let here : Contains x.0.1 a = subst (λ (part : List Call). Contains part a) x.2.part in_a in
        let there : Contains y.0.1 b = subst (λ (part : List Call). Contains part b) y.2.part in_b in
        elim (cases_lt k l) [
          | inl h ↦ absurd (share_none k l x.0 y.0 a b h x.1 y.1 here there same)
          | inr h ↦ elim (cases_lt l k) [
            | inl g ↦ absurd (share_none l k y.0 x.0 b a g y.1 x.1 there here (sym same))
            | inr g ↦ omega arith
          ]
        ]

    -- the recorded call of a timed call's number
    pub timed_is : (k : ℕ) (t : TimedOrder) (c : TimedCall) (key : List ℕ) (call : Call) → slice_get all k ≡ Some t → IsTimedIn t c
        → IsRecorded rows key call → c.op ≡ call.op → StandsAt t.part t.order c.index call × (t.key ≡ key)
    timed_is k t c key call at is recorded same =
        let other = timed_call (own k t at).0 t (own k t at).2 c is in
        let first = (own_part k t at).each other.0 other.1.recorded in
        let place = same_place rows formed t.key key other.0 call first recorded (other.2 ∙ same) in
        let one = same_call rows t.key key other.0 call first recorded place in
        (subst (StandsAt t.part t.order c.index) one other.1, same_key rows t.key key other.0 call first recorded place)
