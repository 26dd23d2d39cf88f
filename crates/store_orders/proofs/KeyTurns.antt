-- The calls of each key in an order of the store are an order of the key's part, and the reverse.
use Rattle.std.proofs.Common.{ℕ, ◌≡◌, ◌<◌, inl, inr, List, sym, ap, ◌∙◌, subst, arith}
use Rattle.std.specs.List.{slice_get, Contains}
use Rattle.std.proofs.lemmas.Bool.{cases_lt}
use Rattle.tag.specs.declared.numbers.OpId.{OpId}
use Rattle.recorder.specs.declared.row.Row.{Row}
use Rattle.recorder.specs.declared.part.Call.{Call}
use Rattle.recorder.specs.Histories.{IsWellFormed}
use Rattle.recorder.specs.Parts.{IsSequence, Precedes}
use Rattle.recorder.specs.Records.{AreParts, IsPart, IsRecorded}
use Rattle.recorder.specs.Orders.{StandsAt, IsOrder}
use Rattle.linearization_points.specs.Points.{AreApart, AreCalls, KeepsPrecedence}
use Rattle.store_orders.specs.StoreOrders.{StandsIn, IsStoreOrder}
use Rattle.store_orders.specs.Turns.{AreCallsOf, AreInTurn, IsOrderedByKey}
use Rattle.store_orders.proofs.Recorded.{same_call, same_place, answered_later, in_part, sequence_of}
use Rattle.store_orders.proofs.Turns.{AreNumbers, flipped, legal_too, turn_of}

-- a call of a key's part that stands in the list
pub stands_in : (rows : List Row) (order : List OpId) (key : List ℕ) (part : List Call) → IsPart rows key part → (i : ℕ) (call : Call)
    → StandsAt part order i call → StandsIn rows order i call
stands_in rows order key part is i call stands = record { listed = stands.listed; key = key; recorded = is.each call stands.recorded }

module _ (rows : List Row) (order : List OpId) (store : IsStoreOrder rows order) where
  module _ (key : List ℕ) (part : List Call) (is : IsPart rows key part) where
    IsOrder-turn : (turn : List OpId) → AreInTurn part order turn → AreNumbers part turn → IsOrder part turn
    IsOrder-turn turn are numbers = record {
      known = numbers;
      once = λ i j less within same.
          let a = numbers i (omega arith) in
          let again : StandsAt part turn j a.0 = record { listed = sym same ∙ a.1.listed; recorded = a.1.recorded } in
          let at = are.back i a.0 a.1 in
          let before = (are.same at.0 at.0 i j a.0 a.0 at.1 at.1 a.1 again).1 less in
          omega arith;
      complete = λ call there done.
          let at = store.complete key call (is.each call there) done in
          are.there at.0 call (record { listed = at.1.listed; recorded = there });
      writes = λ i call stands waits.
          let at = are.back i call stands in
          store.writes at.0 call (stands_in rows order key part is at.0 call at.1) waits;
      legal = legal_too part order turn are (store.legal key part is);
      precedence = λ i j a b less first second precedes.
          let at = are.back i a first in
          let other = are.back j b second in
          store.precedence at.0 other.0 a b ((are.same at.0 other.0 i j a b at.1 other.1 first second).1 less)
          (stands_in rows order key part is at.0 a at.1) (stands_in rows order key part is other.0 b other.1) precedes;
    }

    pub order_of_key : (turn : List OpId) × AreInTurn part order turn × IsOrder part turn
    order_of_key =
        let turn = turn_of part order store.once in
        (turn.0, turn.1, IsOrder-turn turn.0 turn.1 turn.2)

-- what ends first stands first
pub first_ends : (rows : List Row) → IsWellFormed rows → (order : List OpId) → IsStoreOrder rows order → (i j : ℕ) (a b : Call)
    → StandsIn rows order i a → StandsIn rows order j b → Precedes a b → i < j
first_ends rows formed order store i j a b first second before = elim (cases_lt i j) [
  | inl h ↦ h
  | inr h ↦ elim (cases_lt j i) [
    | inl g ↦ absurd (store.precedence j i b a g second first before)
    | inr g ↦
        let here : i ≡ j = omega arith in
        let at : slice_get order i ≡ slice_get order j = ap (slice_get order) here in
        let op : a.op ≡ b.op = cc (first.listed, second.listed, at) in
        let place = same_place rows formed first.key second.key a b first.recorded second.recorded op in
        let late = answered_later rows formed first.key a before.0 first.recorded before.1 in
        absurd (omega (arith, place, late, before.2))
  ]
]

-- ---- all calls in one list

module _ (rows : List Row) (calls : List Call) (are : AreCallsOf rows calls) where
  pub in_calls : (key : List ℕ) (call : Call) → IsRecorded rows key call → Contains calls call
  in_calls key call recorded =
      let other = are.all key call.invoked call.op call.client call.action recorded.begun in
      let has = are.each other.0 other.1 in
      subst (λ (c : Call). Contains calls c) (same_call rows has.0 key other.0 call has.1 recorded other.2) other.1

  pub AreApart-calls : AreApart calls
  AreApart-calls = λ a b response in_a in_b answered same.
      let x = are.each a in_a in
      let y = are.each b in_b in
      let told = (y.1.answered response.place response.returned).0 answered in
      let there : slice_get rows a.invoked ≡ slice_get rows response.place = ap (slice_get rows) same in
      cc (x.1.begun, told, there)

  pub IsSequence-calls : IsWellFormed rows → IsSequence calls
  IsSequence-calls formed = sequence_of rows formed calls are.each are.ordered

  module _ (order : List OpId) where
    to_calls : (i : ℕ) (call : Call) → StandsIn rows order i call → StandsAt calls order i call
    to_calls i call stands = record { listed = stands.listed; recorded = in_calls stands.key call stands.recorded }

    from_calls : (i : ℕ) (call : Call) → StandsAt calls order i call → StandsIn rows order i call
    from_calls i call stands =
        let x = are.each call stands.recorded in
        record { listed = stands.listed; key = x.0; recorded = x.1 }

    pub AreCalls-store : IsStoreOrder rows order → AreCalls calls order
    AreCalls-store store = λ i h. let at = store.known i h in (at.0, to_calls i at.0 at.1)

    pub KeepsPrecedence-store : IsStoreOrder rows order → KeepsPrecedence calls order
    KeepsPrecedence-store store = λ i j a b less first second before.
        store.precedence i j a b less (from_calls i a first) (from_calls j b second) before

    pub by_key : IsStoreOrder rows order → IsOrderedByKey rows calls order
    by_key store = record {
      known = AreCalls-store store;
      once = store.once;
      precedence = KeepsPrecedence-store store;
      turns = order_of_key rows order store;
    }

    module _ (parts : List (List ℕ × List Call)) (of : AreParts rows parts) (ordered : IsOrderedByKey rows calls order) where
      -- a recorded call in its key's part, with the key's turn
      own_turn : (key : List ℕ) (call : Call) → IsRecorded rows key call → (part : List Call) × IsPart rows key part × Contains part call
          × (turn : List OpId) × AreInTurn part order turn × IsOrder part turn
      own_turn key call recorded =
          let own = of.all key call.invoked (call.op, call.client, call.action, recorded.begun) in
          let is = of.each key own.0 own.1 in
          let turn = ordered.turns key own.0 is in
          (own.0, is, in_part rows key own.0 is call recorded, turn.0, turn.1, turn.2)

      pub from_keys : IsStoreOrder rows order
      from_keys = record {
        known = λ i h. let at = ordered.known i h in (at.0, from_calls i at.0 at.1);
        once = ordered.once;
        complete = λ key call recorded done.
            let own = own_turn key call recorded in
            let at = own.5.complete call own.2 done in
            let there = own.4.back at.0 call at.1 in
            (there.0, record { listed = there.1.listed; key = key; recorded = recorded });
        writes = λ i call stands waits.
            let own = own_turn stands.key call stands.recorded in
            let at = own.4.there i call (record { listed = stands.listed; recorded = own.2 }) in
            own.5.writes at.0 call at.1 waits;
        legal = λ key part is.
            let turn = ordered.turns key part is in
            legal_too part turn.0 order (flipped part order turn.0 turn.1) turn.2.legal;
        precedence = λ i j a b less first second before.
            ordered.precedence i j a b less (to_calls i a first) (to_calls j b second) before;
      }
