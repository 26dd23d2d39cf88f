-- The calls of all orders by their points are an order of the store.
use Rattle.std.proofs.Common.{ℕ, ◌≡◌, ◌<◌, ◌≤◌, ◌⊎◌, inl, inr, List, Some, map, refl, sym, ap, ◌∙◌, subst, arith}
use Rattle.std.specs.List.{slice_get}
use Rattle.std.proofs.lemmas.Bool.{cases_lt}
use Rattle.std.proofs.lemmas.Option.{same_Some}
use Rattle.tag.specs.declared.numbers.OpId.{OpId}
use Rattle.tag.proofs.Lists.{get_at, place_of, Contains-slice_get, slice_get-map_at, slice_get-map_back}
use Rattle.recorder.specs.declared.row.Row.{Row}
use Rattle.recorder.specs.declared.part.Call.{Call}
use Rattle.recorder.specs.Histories.{IsWellFormed}
use Rattle.recorder.specs.Orders.{StandsAt, IsLegal}
use Rattle.recorder.specs.Parts.{Precedes}
use Rattle.recorder.specs.Records.{AreParts, IsPart, IsRecorded}
use Rattle.store_orders.specs.StoreOrders.{StandsIn, IsStoreOrder}
use Rattle.store_orders.specs.TimedCalls.{TimedOrder, AreTimedOrders, IsTimedIn, AreTimedCalls}
use Rattle.store_orders.specs.Turns.{AreInTurn}
use Rattle.store_orders.specs.declared.timed_calls.TimedCall.{TimedCall}
use Rattle.store_orders.proofs.TimedOrders.{own, own_part, own_order, one_order, one_index, timed_is, timed_call, timed_at, points_up}
use Rattle.store_orders.proofs.Turns.{flipped, legal_too}

-- along the list points don't fall, and where they are equal the places in the keys' orders don't
pub record AreRising (calls : List TimedCall) : Type 0 where
  pub up : (i j : ℕ) (a b : TimedCall) → i < j → slice_get calls i ≡ Some a → slice_get calls j ≡ Some b
      → (a.point < b.point) ⊎ ((a.point ≡ b.point) × (a.index ≤ b.index))

abbrev pub op_of : TimedCall → OpId
op_of c = c.op

-- the key's part is one list
abbrev pub IsOnePart : List Row → Type 0
IsOnePart rows = (key : List ℕ) (part other : List Call) → IsPart rows key part → IsPart rows key other → part ≡ other

module _ (rows : List Row) (formed : IsWellFormed rows) (parts : List (List ℕ × List Call)) (of : AreParts rows parts) where
  module _ (all : List TimedOrder) (timed : AreTimedOrders parts all) (calls : List TimedCall) (are : AreTimedCalls all calls) where
    -- the timed call at a place
    at_place : (i : ℕ) (key : List ℕ) (call : Call) → slice_get (map op_of calls) i ≡ Some call.op → IsRecorded rows key call
        → (c : TimedCall) × (k : ℕ) × (t : TimedOrder) × (slice_get calls i ≡ Some c) × (slice_get all k ≡ Some t) × IsTimedIn t c
        × StandsAt t.part t.order c.index call × (t.key ≡ key) × (c.op ≡ call.op)
    at_place i key call at recorded =
        let c = slice_get-map_back op_of calls i call.op at in
        let t = are.each c.0 (Contains-slice_get calls i c.0 c.1) in
        let k = place_of all t.0 t.1 in
        let is = timed_is rows formed parts of all timed k.0 t.0 c.0 key call k.1 t.2 recorded c.2 in
        (c.0, k.0, t.0, c.1, k.1, t.2, is.0, is.1, c.2)

    -- a call of a key's order stands in the list
    there : (k : ℕ) (t : TimedOrder) → slice_get all k ≡ Some t → (m : ℕ) (call : Call) → StandsAt t.part t.order m call
        → (i : ℕ) × (slice_get (map op_of calls) i ≡ Some call.op)
    there k t at m call stands =
        let entry = own rows formed parts of all timed k t at in
        let c = timed_at entry.0 t entry.2 m call stands in
        let i = place_of calls c.0 (are.all t c.0 (Contains-slice_get all k t at) c.1) in
        (i.0, slice_get-map_at op_of calls i.0 c.0 i.1 ∙ ap Some c.3)

    module _ (rising : AreRising calls) where
      -- of two timed calls of one order the earlier has the lower index
      index_up : (t : TimedOrder) (k : ℕ) → slice_get all k ≡ Some t → (i j : ℕ) (c d : TimedCall) → i < j → slice_get calls i ≡ Some c
          → slice_get calls j ≡ Some d → IsTimedIn t c → IsTimedIn t d → c.index < d.index
      index_up t k at i j c d less at_i at_j x y =
          let entry = own rows formed parts of all timed k t at in
          elim (cases_lt c.index d.index) [
            | inl h ↦ h
            | inr h ↦ elim (cases_lt d.index c.index) [
              | inl g ↦
                  let down = points_up entry.0 t entry.2 d c y x g in
                  elim (rising.up i j c d less at_i at_j) [
                    | inl low ↦ absurd (omega arith)
                    | inr tie ↦ absurd (let up = tie.1 in omega arith)
                  ]
              | inr g ↦
                  let same : c.index ≡ d.index = omega arith in
                  let op : c.op ≡ d.op = cc (x.listed, y.listed, ap (slice_get t.order) same) in
                  absurd (are.once i j c d less at_i at_j op)
            ]
          ]

      -- a call of the part that stands in the list is timed in the part's order
      own_place : (k : ℕ) (t : TimedOrder) → slice_get all k ≡ Some t → (i : ℕ) (call : Call) → StandsAt t.part (map op_of calls) i call
          → (c : TimedCall) × (slice_get calls i ≡ Some c) × IsTimedIn t c × StandsAt t.part t.order c.index call
      own_place k t at i call stands =
          let is = own_part rows formed parts of all timed k t at in
          let c = at_place i t.key call stands.listed (is.each call stands.recorded) in
          let same : c.1 ≡ k = one_order rows formed parts of all timed c.1 k c.2 t call call c.4 at c.6.recorded stands.recorded refl in
          let one : c.2 ≡ t = same_Some c.2 t (sym c.4 ∙ (ap (slice_get all) same ∙ at)) in (
            c.0,
            c.3,
            subst (λ (u : TimedOrder). IsTimedIn u c.0) one c.5,
            subst (λ (u : TimedOrder). StandsAt u.part u.order c.0.index call) one c.6,
          )

      -- it has the index at which the call stands
      its_index : (k : ℕ) (t : TimedOrder) → slice_get all k ≡ Some t → (m n : ℕ) (call : Call) → StandsAt t.part t.order m call
          → StandsAt t.part t.order n call → m ≡ n
      its_index k t at m n call first second =
          let entry = own rows formed parts of all timed k t at in
          one_index t.part t.order entry.2.ordered m n call.op first.listed second.listed

      -- each key's calls keep their turn
      pub in_turn : (k : ℕ) (t : TimedOrder) → slice_get all k ≡ Some t → AreInTurn t.part (map op_of calls) t.order
      in_turn k t at = record {
        there = λ i call stands. let c = own_place k t at i call stands in (c.0.index, c.3);
        back = λ m call stands.
            let i = there k t at m call stands in
            (i.0, record { listed = i.1; recorded = stands.recorded });
        same = λ i j m n a b at_i at_j at_m at_n.
            let c = own_place k t at i a at_i in
            let d = own_place k t at j b at_j in
            let left = its_index k t at c.0.index m a c.3 at_m in
            let right = its_index k t at d.0.index n b d.3 at_n in (
              λ h. let up = index_up t k at i j c.0 d.0 h c.1 d.1 c.2 d.2 in omega (arith, up, left, right),
              λ h. elim (cases_lt i j) [
                | inl g ↦ g
                | inr g ↦ elim (cases_lt j i) [
                  | inl f ↦ absurd (let up = index_up t k at j i d.0 c.0 f d.1 c.1 d.2 c.2 in omega (arith, up, left, right))
                  | inr f ↦
                      let here : i ≡ j = omega arith in
                      let one : c.0 ≡ d.0 = same_Some c.0 d.0 (sym c.1 ∙ (ap (slice_get calls) here ∙ d.1)) in
                      let index : c.0.index ≡ d.0.index = ap (λ (x : TimedCall). x.index) one in
                      absurd (omega (arith, index, left, right))
                ]
              ],
            );
      }

      -- no call stands before one that precedes it
      in_time : (i j : ℕ) (a b : Call) → i < j → StandsIn rows (map op_of calls) i a → StandsIn rows (map op_of calls) j b
          → Precedes b a → ⊥
      in_time i j a b less first second before =
          let c = at_place i first.key a first.listed first.recorded in
          let d = at_place j second.key b second.listed second.recorded in
          let x = own rows formed parts of all timed c.1 c.2 c.4 in
          let y = own rows formed parts of all timed d.1 d.2 d.4 in
          let low = (x.2.placed.within c.0.index c.0.point a c.5.placed c.6).0 in
          let high = (y.2.placed.within d.0.index d.0.point b d.5.placed d.6).1 before.0 before.1 in
          elim (rising.up i j c.0 d.0 less c.3 d.3) [
            | inl up ↦ omega (arith, low, high, up, before.2)
            | inr tie ↦ omega (arith, low, high, tie.0, before.2)
          ]

      module _ (one : IsOnePart rows) where
        legal : (key : List ℕ) (part : List Call) → IsPart rows key part → IsLegal part (map op_of calls)
        legal key part is i call response stands reads answered =
            let k = own_order rows formed parts of all timed key call (is.each call stands.recorded) in
            let entry = own rows formed parts of all timed k.0 k.1 k.2 in
            let turn = in_turn k.0 k.1 k.2 in
            let mine : IsLegal k.1.part (map op_of calls) =
            legal_too k.1.part k.1.order (map op_of calls) (flipped k.1.part (map op_of calls) k.1.order turn) entry.2.ordered.legal in
            let its = subst (λ (own : List ℕ). IsPart rows own k.1.part) k.3 (own_part rows formed parts of all timed k.0 k.1 k.2) in
            let same : k.1.part ≡ part = one key k.1.part part its is in
            let all_legal : IsLegal part (map op_of calls) = subst (λ (p : List Call). IsLegal p (map op_of calls)) same mine in
            all_legal i call response stands reads answered

        pub merged : IsStoreOrder rows (map op_of calls)
        merged = record {
          known = λ i h.
              let op = get_at (map op_of calls) i h in
              let c = slice_get-map_back op_of calls i op.0 op.1 in
              let t = are.each c.0 (Contains-slice_get calls i c.0 c.1) in
              let k = place_of all t.0 t.1 in
              let entry = own rows formed parts of all timed k.0 t.0 k.1 in
              let call = timed_call entry.0 t.0 entry.2 c.0 t.2 in
              let is = own_part rows formed parts of all timed k.0 t.0 k.1 in (
                call.0,
                record {
                  listed = slice_get-map_at op_of calls i c.0 c.1 ∙ ap Some (sym call.2);
                  key = t.0.key;
                  recorded = is.each call.0 call.1.recorded;
                },
              );
          once = λ i j less within same.
              let a = get_at (map op_of calls) i (omega arith) in
              let c = slice_get-map_back op_of calls i a.0 a.1 in
              let d = slice_get-map_back op_of calls j a.0 (sym same ∙ a.1) in
              are.once i j c.0 d.0 less c.1 d.1 (c.2 ∙ sym d.2);
          complete = λ key call recorded done.
              let k = own_order rows formed parts of all timed key call recorded in
              let entry = own rows formed parts of all timed k.0 k.1 k.2 in
              let at = entry.2.ordered.complete call k.4 done in
              let i = there k.0 k.1 k.2 at.0 call at.1 in
              (i.0, record { listed = i.1; key = key; recorded = recorded });
          writes = λ i call stands waits.
              let c = at_place i stands.key call stands.listed stands.recorded in
              let entry = own rows formed parts of all timed c.1 c.2 c.4 in
              entry.2.ordered.writes c.0.index call c.6 waits;
          legal = legal;
          precedence = in_time;
        }
