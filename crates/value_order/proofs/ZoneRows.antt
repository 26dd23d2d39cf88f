-- Opposition by a row, in numbers.
use Rattle.std.proofs.Common.{ℕ, ◌≡◌, ◌<◌, ◌≤◌, inl, inr, List, Option, Some, None, sym, ◌∙◌, ap, subst, refl, arith}
use Rattle.std.specs.List.{slice_get}
use Rattle.std.proofs.lemmas.Option.{same_Some, slice_get_within, none-some}
use Rattle.tag.proofs.Lists.{get_at}
use Rattle.recorder.specs.declared.part.Call.{Call}
use Rattle.recorder.specs.declared.part.Response.{Response}
use Rattle.recorder.specs.Parts.{IsSequence}
use Rattle.recorder.specs.Sound.{IsWrite}
use Rattle.value_order.specs.declared.zones.Zone.{Zone}
use Rattle.value_order.specs.Families.{IsAnsweredBy, IsMemberBy, MustPrecede, MustPrecedeBy, AreOpposed, AreOpposedBy}
use Rattle.value_order.specs.Zones.{EndsAt, IsFirstEnd, IsZone, AreZones, CrossAt, IsLastRow}
use Rattle.value_order.proofs.CallKinds.{read_or_write, one_place, index_of}

-- what must precede by a row must precede, and by each later row
module _ (part : List Call) (Reads : Call → Call → Type 0) where
  later_answered : (row later : ℕ) (call : Call) → row ≤ later → IsAnsweredBy row call → IsAnsweredBy later call
  later_answered row later call le a = record { response = a.response; responds = a.responds; by = omega (arith, a.by) }

  pub later_member : (row later : ℕ) (write call : Call) → row ≤ later → IsMemberBy part Reads row write call → IsMemberBy part Reads later write call
  later_member row later write call le m = record {
    of = m.of;
    there = elim m.there [ inl same ↦ inl same | inr a ↦ inr (later_answered row later call le a) ];
  }

  later_precedes : (row later : ℕ) (x y : Call) → row ≤ later → MustPrecedeBy part Reads row x y → MustPrecedeBy part Reads later x y
  later_precedes row later x y le m = record {
    first = m.first;
    second = m.second;
    of_x = m.of_x;
    of_y = later_member row later y m.second le m.of_y;
    ended = later_answered row later m.first le m.ended;
    precedes = m.precedes;
  }

  pub later_opposed : (row later : ℕ) (x y : Call) → row ≤ later → AreOpposedBy part Reads row x y → AreOpposedBy part Reads later x y
  later_opposed row later x y le o = record {
    apart = o.apart;
    there = later_precedes row later x y le o.there;
    back = later_precedes row later y x le o.back;
  }

  by_row : (row : ℕ) (x y : Call) → MustPrecedeBy part Reads row x y → MustPrecede part Reads x y
  by_row row x y m = record { first = m.first; second = m.second; of_x = m.of_x; of_y = m.of_y.of; precedes = m.precedes }

  pub opposed_by_row : (row : ℕ) (x y : Call) → AreOpposedBy part Reads row x y → AreOpposed part Reads x y
  opposed_by_row row x y o = record { apart = o.apart; there = by_row row x y o.there; back = by_row row y x o.back }

  pub turned : (row : ℕ) (x y : Call) → AreOpposedBy part Reads row x y → AreOpposedBy part Reads row y x
  turned row x y o = record { apart = λ e. o.apart (sym e); there = o.back; back = o.there }

-- by the last row all is there
module _ (part : List Call) (Reads : Call → Call → Type 0) (answered : (write read : Call) → Reads write read → (response : Response) × (read.response ≡ Some response)) (row : ℕ) (last : IsLastRow part row) where
  all_by : (x y : Call) → MustPrecede part Reads x y → MustPrecedeBy part Reads row x y
  all_by x y m = record {
    first = m.first;
    second = m.second;
    of_x = m.of_x;
    of_y = record {
      of = m.of_y;
      there = elim m.of_y.belongs [
        | inl same ↦ inl same
        | inr reads ↦ let r = answered y m.second reads in inr (record { response = r.0; responds = r.1; by = last m.second r.0 m.of_y.recorded r.1 })
      ];
    };
    ended = record { response = m.precedes.0; responds = m.precedes.1; by = last m.first m.precedes.0 m.of_x.recorded m.precedes.1 };
    precedes = m.precedes;
  }

  pub opposed_by_last : (x y : Call) → AreOpposed part Reads x y → AreOpposedBy part Reads row x y
  opposed_by_last x y o = record { apart = o.apart; there = all_by x y o.there; back = all_by y x o.back }

-- ---- by numbers

-- the first end, and a place where the family ends
pub first_at_most : (part : List Call) (Reads : Call → Call → Type 0) (row : ℕ) (write : Call) (first : Option ℕ) → IsFirstEnd part Reads row write first → (place : ℕ) → EndsAt part Reads row write place → (end : ℕ) × (first ≡ Some end) × (end ≤ place)
first_at_most part Reads row write None is place ends = absurd (is place ends)
first_at_most part Reads row write (Some end) is place ends = (end, refl, is.1 place ends)

pub first_ends : (part : List Call) (Reads : Call → Call → Type 0) (row : ℕ) (write : Call) (first : Option ℕ) (end : ℕ) → first ≡ Some end → IsFirstEnd part Reads row write first → EndsAt part Reads row write end × ((place : ℕ) → EndsAt part Reads row write place → end ≤ place)
first_ends part Reads row write first end e is = subst (IsFirstEnd part Reads row write) e is

module _ (part : List Call) (Reads : Call → Call → Type 0) (row : ℕ) (zones : List Zone) (are : AreZones part Reads row zones) where
  -- a zone with an end is a write's
  pub zone_write : (k : ℕ) (zone : Zone) (end : ℕ) → slice_get zones k ≡ Some zone → zone.first_end ≡ Some end → (write : Call) × (slice_get part k ≡ Some write) × IsWrite write × IsZone part Reads row write zone
  zone_write k zone end at ends =
      let c = get_at part k (omega (arith, slice_get_within zones k zone at, are.all)) in
      elim (read_or_write c.0) [
        | inl read ↦ absurd (none-some end (sym (are.reads k c.0 zone c.1 read at) ∙ ends))
        | inr write ↦ (c.0, c.1, write, are.writes k c.0 zone c.1 write at)
      ]

  precede_from : (x y : Call) (a b : Zone) (end : ℕ) → IsZone part Reads row x a → IsZone part Reads row y b → a.first_end ≡ Some end → end < b.last_begin → MustPrecedeBy part Reads row x y
  precede_from x y a b end of_a of_b ends less =
      let e = (first_ends part Reads row x a.first_end end ends of_a.first).0 in
      let l = of_b.last.0 in
      record {
        first = e.call;
        second = l.call;
        of_x = e.of;
        of_y = l.member;
        ended = e.ended;
        precedes = (e.ended.response, e.ended.responds, omega (arith, e.at, l.at, less));
      }

  -- zones that cross are of opposed families
  pub opposed_from_cross : IsSequence part → (k m : ℕ) → CrossAt zones k m → (x : Call) × (y : Call) × (slice_get part k ≡ Some x) × (slice_get part m ≡ Some y) × AreOpposedBy part Reads row x y
  opposed_from_cross sequence k m c =
      let x = zone_write k c.a c.end_a c.at_a c.ends_a in
      let y = zone_write m c.b c.end_b c.at_b c.ends_b in (
        x.0,
        y.0,
        x.1,
        y.1,
        record {
          apart = λ same. c.apart (index_of part sequence k m x.0 y.0 x.1 y.1 same);
          there = precede_from x.0 y.0 c.a c.b c.end_a x.3 y.3 c.ends_a c.there;
          back = precede_from y.0 x.0 c.b c.a c.end_b y.3 x.3 c.ends_b c.back;
        },
      )

  less_from : (x y : Call) (a b : Zone) → IsZone part Reads row x a → IsZone part Reads row y b → MustPrecedeBy part Reads row x y → (end : ℕ) × (a.first_end ≡ Some end) × (end < b.last_begin)
  less_from x y a b of_a of_b m =
      let f = first_at_most part Reads row x a.first_end of_a.first m.ended.response.place (record { call = m.first; of = m.of_x; ended = m.ended; at = refl }) in
      let low = of_b.last.1 m.second.invoked (record { call = m.second; member = m.of_y; at = refl }) in
      let same = one_place m.first m.ended.response m.precedes.0 m.ended.responds m.precedes.1 in
      (f.0, f.1, omega (arith, f.2, low, same, m.precedes.2))

  -- and opposed families have zones that cross
  pub cross_from_opposed : (k m : ℕ) (x y : Call) → slice_get part k ≡ Some x → slice_get part m ≡ Some y → AreOpposedBy part Reads row x y → CrossAt zones k m
  cross_from_opposed k m x y at_k at_m o =
      let a = get_at zones k (omega (arith, slice_get_within part k x at_k, are.all)) in
      let b = get_at zones m (omega (arith, slice_get_within part m y at_m, are.all)) in
      let of_a = are.writes k x a.0 at_k o.there.of_x.writes a.1 in
      let of_b = are.writes m y b.0 at_m o.back.of_x.writes b.1 in
      let p = less_from x y a.0 b.0 of_a of_b o.there in
      let q = less_from y x b.0 a.0 of_b of_a o.back in
      record {
        a = a.0;
        b = b.0;
        end_a = p.0;
        end_b = q.0;
        apart = λ same. o.apart (same_Some x y (sym at_k ∙ (ap (slice_get part) same ∙ at_m)));
        at_a = a.1;
        at_b = b.1;
        ends_a = p.1;
        ends_b = q.1;
        there = p.2;
        back = q.2;
      }
