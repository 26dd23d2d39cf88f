-- At the least row by which two families oppose each other a read of one was answered.
use Rattle.std.proofs.Common.{Bool, true, false, MatchBool, ℕ, ◌≡◌, ◌<◌, ◌≤◌, ◌+◌, ◌-◌, ◌⊎◌, inl, inr, List, Some, ap, subst, arith}
use Rattle.std.specs.List.{slice_get, Contains}
use Rattle.std.proofs.lemmas.Bool.{cases_lt}
use Rattle.tag.proofs.Lists.{place_of}
use Rattle.recorder.specs.declared.part.Call.{Call}
use Rattle.recorder.specs.Parts.{IsSequence}
use Rattle.value_order.specs.declared.zones.Zone.{Zone}
use Rattle.value_order.specs.Families.{IsOfFamily, IsAnsweredBy, IsMemberBy, MustPrecedeBy}
use Rattle.value_order.specs.Writers.{IsOnlyWriter}
use Rattle.value_order.specs.Rows.{IsOpposedBy, HasOpposedBy, NoneOpposedBy, NoneOpposedBefore, HasReadAt}
use Rattle.value_order.specs.Zones.{AreZones, CrossAt, NoneCross}
use Rattle.value_order.proofs.CallKinds.{one_place, only_recorded}
use Rattle.value_order.specs.Crossing.{HasCrossing}
use Rattle.value_order.proofs.ZoneRows.{later_opposed, cross_from_opposed, opposed_from_cross}

-- the write of a family that has a call is of the part
pub family_recorded : (part : List Call) (write call : Call) → IsOfFamily part (IsOnlyWriter part) write call → Contains part write
family_recorded part write call of = elim of.belongs [
  | inl same ↦ subst (λ (c : Call). Contains part c) same of.recorded
  | inr reads ↦ only_recorded part write call reads
]

-- the write of a family of which a call ended by a row began before that row
begun_before : (part : List Call) → IsSequence part → (row : ℕ) (write call : Call) → IsOfFamily part (IsOnlyWriter part) write call → IsAnsweredBy row call → write.invoked ≤ row
begun_before part sequence row write call of a = elim of.belongs [
  | inl same ↦
      let begun : call.invoked ≡ write.invoked = ap (λ (c : Call). c.invoked) same in
      let later = sequence.responses call a.response of.recorded a.responds in
      omega (arith, a.by)
  | inr reads ↦
      let same = one_place call reads.writer.answered.response a.response reads.writer.answered.responds a.responds in
      omega (arith, reads.writer.began, a.by)
]

-- a call that was answered by a row was so by the row before, or at it
at_or_before : (row : ℕ) (call : Call) → 1 ≤ row → (a : IsAnsweredBy row call) → (a.response.place ≡ row) ⊎ IsAnsweredBy (row - 1) call
at_or_before row call one a = elim (cases_lt a.response.place row) [
  | inl h ↦ inr (record { response = a.response; responds = a.responds; by = omega arith })
  | inr h ↦ inl (omega (arith, a.by))
]

module _ (part : List Call) (sequence : IsSequence part) (row : ℕ) where
  -- the call that precedes one which is there was answered before the row
  first_before : (x y : Call) → (m : MustPrecedeBy part (IsOnlyWriter part) row x y) → y.invoked ≤ row → m.ended.response.place < row
  first_before x y m begun =
      let same = one_place m.first m.ended.response m.precedes.0 m.ended.responds m.precedes.1 in
      elim m.of_y.there [
        | inl own ↦ (let at : m.second.invoked ≡ y.invoked = ap (λ (c : Call). c.invoked) own in omega (arith, m.precedes.2))
        | inr a ↦ (let later = sequence.responses m.second a.response m.of_y.of.recorded a.responds in omega (arith, m.precedes.2, a.by))
      ]

  -- the family's member is there by the row before, or is a read that was answered at the row
  member_cases : (write call : Call) → 1 ≤ row → IsMemberBy part (IsOnlyWriter part) row write call → HasReadAt part row write ⊎ IsMemberBy part (IsOnlyWriter part) (row - 1) write call
  member_cases write call one m = elim m.of.belongs [
    | inl same ↦ inr (record { of = m.of; there = inl same })
    | inr reads ↦ elim m.there [
      | inl same ↦ inr (record { of = m.of; there = inl same })
      | inr a ↦ elim (at_or_before row call one a) [
        | inl at ↦ inl (record { read = call; recorded = m.of.recorded; reads = reads; response = a.response; responds = a.responds; at = at })
        | inr before ↦ inr (record { of = m.of; there = inr before })
      ]
    ]
  ]

  earlier_precedes : (x y : Call) → (m : MustPrecedeBy part (IsOnlyWriter part) row x y) → m.ended.response.place < row → IsMemberBy part (IsOnlyWriter part) (row - 1) y m.second → MustPrecedeBy part (IsOnlyWriter part) (row - 1) x y
  earlier_precedes x y m less there = record {
    first = m.first;
    second = m.second;
    of_x = m.of_x;
    of_y = there;
    ended = record { response = m.ended.response; responds = m.ended.responds; by = omega arith };
    precedes = m.precedes;
  }

  -- two families that oppose each other first by this row: one has a read that was answered at it
  pub read_at_row : NoneOpposedBefore part row → (x y : Call) → IsOpposedBy part row x y → HasReadAt part row x ⊎ HasReadAt part row y
  read_at_row least x y o =
      let begun_x = begun_before part sequence row x o.there.first o.there.of_x o.there.ended in
      let begun_y = begun_before part sequence row y o.back.first o.back.of_x o.back.ended in
      let less = first_before x y o.there begun_y in
      let more = first_before y x o.back begun_x in
      let one : 1 ≤ row = omega arith in
      elim (member_cases y o.there.second one o.there.of_y) [
        | inl read ↦ inr read
        | inr there ↦ elim (member_cases x o.back.second one o.back.of_y) [
          | inl read ↦ inl read
          | inr back ↦ absurd (least (row - 1) (omega arith) x y (record {
            apart = o.apart;
            there = earlier_precedes x y o.there less there;
            back = earlier_precedes y x o.back more back;
          }))
        ]
      ]

-- what crossing says of opposition
module _ (part : List Call) (row : ℕ) (zones : List Zone) (are : AreZones part (IsOnlyWriter part) row zones) where
  pub has_opposed : IsSequence part → (k : ℕ) × (m : ℕ) × CrossAt zones k m → HasOpposedBy part row
  has_opposed sequence c = (let o = opposed_from_cross part (IsOnlyWriter part) row zones are sequence c.0 c.1 c.2 in (o.0, o.1, o.4))

  pub crossing : (x y : Call) → IsOpposedBy part row x y → (k : ℕ) × (m : ℕ) × (slice_get part k ≡ Some x) × (slice_get part m ≡ Some y) × CrossAt zones k m
  crossing x y o =
      let k = place_of part x (family_recorded part x o.there.first o.there.of_x) in
      let m = place_of part y (family_recorded part y o.back.first o.back.of_x) in
      (k.0, m.0, k.1, m.1, cross_from_opposed part (IsOnlyWriter part) row zones are k.0 m.0 x y k.1 m.1 o)

  pub none_opposed_by : NoneCross zones → NoneOpposedBy part row
  none_opposed_by none x y o = (let c = crossing x y o in none c.0 c.1 c.4)

-- the answer of a scan
pub opposed_by_scan : (part : List Call) → IsSequence part → (row : ℕ) (zones : List Zone) → AreZones part (IsOnlyWriter part) row zones → (b : Bool) → MatchBool b (HasCrossing zones) (NoneCross zones) → MatchBool b (HasOpposedBy part row) (NoneOpposedBy part row)
opposed_by_scan part sequence row zones are true h = has_opposed part row zones are sequence h
opposed_by_scan part sequence row zones are false h = none_opposed_by part row zones are h

-- below a row by which none are opposed
pub none_below : (part : List Call) (middle : ℕ) → NoneOpposedBy part middle → NoneOpposedBefore part (middle + 1)
none_below part middle none earlier less x y o = none x y (later_opposed part (IsOnlyWriter part) earlier middle x y (omega arith) o)
