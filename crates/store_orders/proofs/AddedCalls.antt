-- Calls with their points, made order by order.
use Rattle.std.proofs.Common.{ℕ, suc, ◌≡◌, ◌≢◌, ◌<◌, ◌≤◌, ◌+◌, inl, inr, List, [], ◌∷◌, ◌++◌}
use Rattle.std.proofs.Common.{Some, length, take, refl, sym, ap, ◌∙◌, subst, arith}
use Rattle.std.specs.List.{slice_get, Contains}
use Rattle.std.proofs.lemmas.List.{length_push, take_all}
use Rattle.std.proofs.lemmas.List.Elements.{Contains-append_left, Contains-append_right}
use Rattle.std.proofs.lemmas.Option.{same_Some, slice_get_within}
use Rattle.std.proofs.lemmas.Slice.Zip.{all_zipped_more, AllZip-long}
use Rattle.tag.specs.declared.numbers.OpId.{OpId}
use Rattle.tag.proofs.Lists.{append_cases, get_at, in_front, place_of, push_cases, take_push, Contains-slice_get}
use Rattle.tag.proofs.Options.{none_some}
use Rattle.recorder.specs.declared.order.KeyOrder.{KeyOrder}
use Rattle.recorder.specs.declared.part.Call.{Call}
use Rattle.recorder.specs.Orders.{IsOrder}
use Rattle.witness_order.specs.RecordOrders.{AreOrdersOf}
use Rattle.store_orders.specs.TimedCalls.{TimedOrder, IsTimedOrder, IsTimedIn, AreTimedCalls, AreFirstCalls, AddsCalls, ShareNoNumber}
use Rattle.store_orders.specs.TimedCalls.{AreCallsWithPoints}
use Rattle.store_orders.specs.declared.timed_calls.TimedCall.{TimedCall}
use Rattle.store_orders.proofs.TimedOrders.{zip_back, timed_call}

module _ (order : List OpId) (points : List ℕ) where
  pub first_none : AreFirstCalls order points 0 []
  first_none = record { count = refl; each = λ k call at. none_some at }

  -- the call of one place more
  pub first_more : (n : ℕ) (more : List TimedCall) (call : TimedCall) → call.index ≡ n → slice_get order n ≡ Some call.op
      → slice_get points n ≡ Some call.point → AreFirstCalls order points n more → AreFirstCalls order points (n + 1) (more ++ call ∷ [])
  first_more n more call index listed placed are = record {
    count = length_push more call ∙ ap (λ (k : ℕ). k + 1) are.count;
    each = λ k other at. elim (push_cases more call k other at) [
      | inl old ↦ are.each k other old
      | inr last ↦
          let here : n ≡ k = sym (last.0 ∙ are.count) in
          subst (λ (m : ℕ). (other.index ≡ m) × (slice_get order m ≡ Some other.op) × (slice_get points m ≡ Some other.point)) here
          (subst (λ (c : TimedCall). (c.index ≡ n) × (slice_get order n ≡ Some c.op) × (slice_get points n ≡ Some c.point)) last.1
          (index, listed, placed))
    ];
  }

pub same_timed : (c d : TimedCall) → c.point ≡ d.point → c.index ≡ d.index → c.op ≡ d.op → c ≡ d
same_timed c d p q r = λ i. record { point = p i; index = q i; op = r i }

-- ---- the calls of one order more

module _ (all : List TimedOrder) (old : List TimedCall) (are : AreTimedCalls all old) where
  module _ (entry : List ℕ × List Call) (t : TimedOrder) (is : IsTimedOrder entry t) (more : List TimedCall) where
    module _ (first : AreFirstCalls t.order t.points (length t.order) more) where
      -- what is added stands in the order
      added_in : (j : ℕ) (call : TimedCall) → slice_get more j ≡ Some call → IsTimedIn t call
      added_in j call at =
          let f = first.each j call at in
          record { listed = ap (slice_get t.order) f.0 ∙ f.1; placed = ap (slice_get t.points) f.0 ∙ f.2 }

      in_added : (call : TimedCall) → IsTimedIn t call → Contains more call
      in_added call timed =
          let k = call.index in
          let other = get_at more k (let h = slice_get_within t.order k call.op timed.listed in omega (arith, first.count)) in
          let f = first.each k other.0 other.1 in
          let op = same_Some other.0.op call.op (sym f.1 ∙ timed.listed) in
          let point = same_Some other.0.point call.point (sym f.2 ∙ timed.placed) in
          Contains-slice_get more k call (other.1 ∙ ap Some (same_timed other.0 call point f.0 op))

      each_added : (call : TimedCall) → Contains (old ++ more) call → (u : TimedOrder) × Contains (all ++ t ∷ []) u × IsTimedIn u call
      each_added call there =
          let at = place_of (old ++ more) call there in
          elim (append_cases old more at.0 call at.1) [
            | inl h ↦
                let u = are.each call (Contains-slice_get old at.0 call h) in
                (u.0, Contains-append_left all (t ∷ []) u.0 u.1, u.2)
            | inr h ↦ (t, Contains-append_right all (t ∷ []) t (Contains-slice_get (t ∷ []) 0 t refl), added_in h.0 call h.2)
          ]

      all_added : (u : TimedOrder) (call : TimedCall) → Contains (all ++ t ∷ []) u → IsTimedIn u call → Contains (old ++ more) call
      all_added u call there timed =
          let at = place_of (all ++ t ∷ []) u there in
          elim (push_cases all t at.0 u at.1) [
            | inl h ↦ Contains-append_left old more call (are.all u call (Contains-slice_get all at.0 u h) timed)
            | inr h ↦ Contains-append_right old more call (in_added call (subst (λ (x : TimedOrder). IsTimedIn x call) (sym h.1) timed))
          ]

      module _ (apart : (u : TimedOrder) (a b : TimedCall) → Contains all u → IsTimedIn u a → IsTimedIn t b → a.op ≢ b.op) where
        once_added : (i j : ℕ) (a b : TimedCall) → i < j → slice_get (old ++ more) i ≡ Some a → slice_get (old ++ more) j ≡ Some b
            → a.op ≢ b.op
        once_added i j a b less at_i at_j = elim (append_cases old more i a at_i) [
          | inl h ↦ elim (append_cases old more j b at_j) [
            | inl g ↦ are.once i j a b less h g
            | inr g ↦ let u = are.each a (Contains-slice_get old i a h) in apart u.0 a b u.1 u.2 (added_in g.0 b g.2)
          ]
          | inr h ↦ elim (append_cases old more j b at_j) [
            | inl g ↦ absurd (omega (arith, slice_get_within old j b g, h.1))
            | inr g ↦
                let f = first.each h.0 a h.2 in
                let s = first.each g.0 b g.2 in
                (λ same. is.ordered.once h.0 g.0 (omega (arith, h.1, g.1)) (slice_get_within t.order g.0 b.op s.1)
                (f.1 ∙ (ap Some same ∙ sym s.1)))
          ]
        ]

        pub timed_more : AreTimedCalls (all ++ t ∷ []) (old ++ more)
        timed_more = record { each = each_added; all = all_added; once = once_added }

-- before the first order
pub timed_none : AreTimedCalls [] []
timed_none = record {
  each = λ call there. absurd (let h = there.1 in omega arith);
  all = λ u call there timed. absurd (let h = there.1 in omega arith);
  once = λ i j a b less at_i at_j. none_some at_i;
}

-- the order is one of the part, under its key
abbrev pub IsOrderOf : List ℕ × List Call → KeyOrder → Type 0
IsOrderOf part own = (own.key ≡ part.0) × IsOrder part.1 own.order

-- ---- in the loop over the orders

module _ (parts : List (List ℕ × List Call)) (orders : List KeyOrder) where
  abbrev SoFar : ℕ → List TimedCall → Type 0
  SoFar n calls = AreCallsWithPoints (take n parts) (take n orders) calls

  pub calls_none : SoFar 0 []
  calls_none = record { all = []; timed = tt; given = tt; calls_are = timed_none }

  pub calls_more : ShareNoNumber parts → (n : ℕ) (entry : List ℕ × List Call) (own : KeyOrder) (old new : List TimedCall)
      → slice_get parts n ≡ Some entry → slice_get orders n ≡ Some own → IsOrder entry.1 own.order → AddsCalls entry.1 own.order old new
      → SoFar n old → SoFar (n + 1) new
  calls_more share n entry own old new at_part at_order is adds before =
      let t : TimedOrder = record { key = entry.0; part = entry.1; order = own.order; points = adds.points } in
      let of : IsTimedOrder entry t = record { key = refl; part = refl; ordered = is; placed = adds.placed } in
      let apart : (u : TimedOrder) (a b : TimedCall) → Contains before.all u → IsTimedIn u a → IsTimedIn t b → a.op ≢ b.op =
      (λ u a b there x y same.
      let m = place_of before.all u there in
      let other = zip_back IsTimedOrder (take n parts) before.all before.timed m.0 u m.1 in
      let front = in_front parts n m.0 other.0 other.1 in
      let p = timed_call other.0 u other.2 a x in
      let q = timed_call entry t of b y in
      let p_in = subst (λ (part : List Call). Contains part p.0) other.2.part p.1.recorded in
      share m.0 n other.0 entry p.0 q.0 front.0 front.1 at_part p_in q.1.recorded (p.2 ∙ (same ∙ sym q.2))) in
      let made = timed_more before.all old before.calls_are entry t of adds.more adds.are apart in
      let some : AreCallsWithPoints (take n parts ++ entry ∷ []) (take n orders ++ own ∷ []) new = record {
        all = before.all ++ t ∷ [];
        timed = all_zipped_more IsTimedOrder (take n parts) before.all entry t before.timed of;
        given = all_zipped_more (λ (o : KeyOrder) (u : TimedOrder). o.order ≡ u.order) (take n orders) before.all own t before.given refl;
        calls_are = subst (AreTimedCalls (before.all ++ t ∷ [])) (sym adds.added) made;
      } in
      let next : n + 1 ≡ suc n = omega arith in
      subst (λ (k : ℕ). SoFar k new) (sym next)
      (subst (λ (l : List (List ℕ × List Call)). AreCallsWithPoints l (take (suc n) orders) new) (sym (take_push parts n entry at_part))
      (subst (λ (l : List KeyOrder). AreCallsWithPoints (take n parts ++ entry ∷ []) l new) (sym (take_push orders n own at_order)) some))

  -- the part of an order that stands at a place
  pub entry_at : AreOrdersOf parts orders → (n : ℕ) (own : KeyOrder) → slice_get orders n ≡ Some own
      → (entry : List ℕ × List Call) × (slice_get parts n ≡ Some entry) × IsOrder entry.1 own.order
  entry_at are n own at =
      let entry = zip_back IsOrderOf parts orders are n own at in
      (entry.0, entry.1, entry.2.1)

  -- after the last
  pub calls_all : AreOrdersOf parts orders → (n : ℕ) (calls : List TimedCall) → length orders ≤ n → SoFar n calls
      → AreCallsWithPoints parts orders calls
  calls_all are n calls past before =
      let long = AllZip-long IsOrderOf parts orders are in
      subst (λ (l : List (List ℕ × List Call)). AreCallsWithPoints l orders calls) (take_all n parts (omega (arith, long)))
      (subst (λ (l : List KeyOrder). AreCallsWithPoints (take n parts) l calls) (take_all n orders past) before)
