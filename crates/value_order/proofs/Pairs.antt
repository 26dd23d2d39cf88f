-- The families that oppose each other at the least row.
use Rattle.std.proofs.Common.{ℕ, ◌≡◌, ◌<◌, ◌≤◌, inl, inr, List, Some, None, length, sym, subst, refl, arith}
use Rattle.std.specs.List.{slice_get}
use Rattle.std.proofs.lemmas.Option.{slice_get_within}
use Rattle.tag.proofs.Lists.{place_of, Contains-slice_get}
use Rattle.recorder.specs.declared.part.Call.{Call}
use Rattle.recorder.specs.Parts.{IsSequence}
use Rattle.value_order.specs.declared.decision.Side.{Side}
use Rattle.value_order.specs.declared.zones.Zone.{Zone}
use Rattle.value_order.specs.Crossing.{IsFirstCrossing}
use Rattle.value_order.specs.Rows.{IsOpposedBy, IsLeastRow, HasReadAt, ArePairAt, HasNoPairAt, NoneOpposedBefore, EndedAt, HasSide, IsSideOf, IsFirstOpposed}
use Rattle.value_order.specs.Sources.{HasOnlyWriter}
use Rattle.value_order.specs.Writers.{IsOnlyWriter}
use Rattle.value_order.specs.Zones.{AreZones, CrossAt}
use Rattle.value_order.proofs.CallKinds.{index_of, call_at}
use Rattle.value_order.proofs.FirstFaults.{lower_number}
use Rattle.value_order.proofs.LeastRows.{crossing, read_at_row}
use Rattle.value_order.proofs.ZoneRows.{opposed_from_cross, turned, zone_write}

-- no such read below index i
abbrev pub NoPairBelow : List Call → ℕ → ℕ → Type 0
NoPairBelow part row i = (j : ℕ) → j < i → HasNoPairAt part row j

module _ (part : List Call) (sequence : IsSequence part) (row : ℕ) where
  -- but there is one at the least row
  read_found : (x y : Call) → IsOpposedBy part row x y → HasReadAt part row x → (i : ℕ) → length part ≤ i → NoPairBelow part row i → ⊥
  read_found x y o h i past none =
      let j = place_of part h.read h.recorded in
      none j.0 (omega (arith, slice_get_within part j.0 h.read j.1)) h.read x y j.1 h.reads (h.response, h.responds, h.at) o

  pub pair_found : IsLeastRow part row → (i : ℕ) → length part ≤ i → NoPairBelow part row i → ⊥
  pair_found least i past none =
      let x = least.opposed.0 in
      let y = least.opposed.1 in
      let o = least.opposed.2 in
      elim (read_at_row part sequence row least.least x y o) [
        | inl h ↦ read_found x y o h i past none
        | inr h ↦ read_found y x (turned part (IsOnlyWriter part) row x y o) h i past none
      ]

  module _ (zones : List Zone) (are : AreZones part (IsOnlyWriter part) row zones) (call : Call) (family : ℕ) (only : HasOnlyWriter part call family) where
    -- the family of a read whose zone crosses none
    pub not_paired : IsFirstCrossing zones family None → (x y : Call) → IsOnlyWriter part x call → IsOpposedBy part row x y → ⊥
    not_paired none x y reads o =
        let c = crossing part row zones are x y o in
        let same : x ≡ only.write = only.is.only x reads.writer in
        let here = index_of part sequence c.0 family x only.write c.2 only.at same in
        none c.1 (subst (λ (k : ℕ). CrossAt zones k c.1) here c.4)

    -- the first that it crosses
    pub pair_here : (i other : ℕ) → slice_get part i ≡ Some call → EndedAt call row → IsFirstCrossing zones family (Some other) → ArePairAt part row family other
    pair_here i other at ended first =
        let o = opposed_from_cross part (IsOnlyWriter part) row zones are sequence family other first.0 in
        let own : o.0 ≡ only.write = call_at part family family o.0 only.write o.2 only.at refl in (
          o.0,
          o.1,
          o.2,
          o.3,
          record {
            read = record {
              read = call;
              recorded = Contains-slice_get part i call at;
              reads = subst (λ (c : Call). IsOnlyWriter part c call) (sym own) only.is;
              response = ended.0;
              responds = ended.1;
              at = ended.2;
            };
            opposed = o.4;
            lowest = λ y other_o.
                let c = crossing part row zones are o.0 y other_o in
                let here = index_of part sequence c.0 family o.0 o.0 c.2 o.2 refl in
                let low = first.1 c.1 (subst (λ (k : ℕ). CrossAt zones k c.1) here c.4) in
                lower_number part sequence other c.1 o.1 y low o.3 c.3;
          },
        )

-- the zones of the two have ends
pub pair_sides : (part : List Call) → IsSequence part → (row : ℕ) (zones : List Zone) → AreZones part (IsOnlyWriter part) row zones → (k m : ℕ) → ArePairAt part row k m → HasSide part zones k × HasSide part zones m
pair_sides part sequence row zones are k m p =
    let c = crossing part row zones are p.0 p.1 p.4.opposed in
    let here = index_of part sequence c.0 k p.0 p.0 c.2 p.2 refl in
    let there = index_of part sequence c.1 m p.1 p.1 c.3 p.3 refl in
    let cross : CrossAt zones k m = subst (λ (j : ℕ). CrossAt zones j m) here (subst (λ (j : ℕ). CrossAt zones c.0 j) there c.4) in
    let x = zone_write part (IsOnlyWriter part) row zones are k cross.a cross.end_a cross.at_a cross.ends_a in
    let y = zone_write part (IsOnlyWriter part) row zones are m cross.b cross.end_b cross.at_b cross.ends_b in
    ((row, x.0, cross.a, cross.end_a, x.1, cross.at_a, cross.ends_a, x.3), (row, y.0, cross.b, cross.end_b, y.1, cross.at_b, cross.ends_b, y.3))

-- with their sides
pub pair_opposed : (part : List Call) (row k m : ℕ) (a b : Side) → NoneOpposedBefore part row → ArePairAt part row k m → (write : Call) × (slice_get part k ≡ Some write) × IsSideOf part row write a → (write : Call) × (slice_get part m ≡ Some write) × IsSideOf part row write b → IsFirstOpposed part a b
pair_opposed part row k m a b least p of_a of_b =
    let same_a : of_a.0 ≡ p.0 = call_at part k k of_a.0 p.0 of_a.1 p.2 refl in
    let same_b : of_b.0 ≡ p.1 = call_at part m m of_b.0 p.1 of_b.1 p.3 refl in
    record {
      row = row;
      least = least;
      x = p.0;
      y = p.1;
      pair = p.4;
      side_x = subst (λ (c : Call). IsSideOf part row c a) same_a of_a.2;
      side_y = subst (λ (c : Call). IsSideOf part row c b) same_b of_b.2;
    }
