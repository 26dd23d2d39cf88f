use Rattle.std.proofs.Common.{ℕ, ◌≡◌, ◌<◌, ◌+◌, ◌-◌, Option, List, length, get_or, sym, ◌∙◌, ap, subst, arith}
use Rattle.std.proofs.lemmas.Bool.{false≢true}
use Rattle.std.proofs.lemmas.Option.{same_Some, slice_get-get_or}
use Rattle.recorder.specs.declared.part.Call.{Call}
use Rattle.value_order.specs.declared.sources.Source.{Source}
use Rattle.value_order.specs.declared.sources.Source.TheVariants as source
use Rattle.value_order.specs.declared.zones.Zone.{Zone}
use Rattle.value_order.specs.Sources.{family_of}
use Rattle.value_order.proofs.Crosses.{IsScanned, Begins, scanned_same, scanned_within, scanned_outside, none_cross}
use Rattle.value_order.proofs.Decided.{have_zones}
use Rattle.value_order.proofs.crossing.have_crossing.Goals as goal

pub crosses-requires-clause-family : goal.crosses-requires-clause-family
crosses-requires-clause-family c =
    let n = c.calls.i - 1 in
    let sources = c.args.sources.now in
    let within : n < length sources = omega (arith, c.calls.invariant.within, c.calls-test.true, c.requires.sources.all) in
    have_zones c.args.part.now sources c.requires.sources c.requires.zones.0 c.args.zones.now c.requires.zones.1 n c.in-Some.family _ (slice_get-get_or sources n _ within) (sym c.family_of.ensures ∙ c.in-Some.is)

pub offset_bounds-zones-family : goal.offset_bounds-zones-family
offset_bounds-zones-family c =
    let n = c.calls.i - 1 in
    let sources = c.args.sources.now in
    let within : n < length sources = omega (arith, c.calls.invariant.within, c.calls-test.true, c.requires.sources.all) in
    let h = have_zones c.args.part.now sources c.requires.sources c.requires.zones.0 c.args.zones.now c.requires.zones.1 n c.in-Some.family _ (slice_get-get_or sources n _ within) (sym c.family_of.ensures ∙ c.in-Some.is) in
    omega (arith, h)

pub bounds-zones-family : goal.bounds-zones-family
bounds-zones-family c =
    let n = c.calls.i - 1 in
    let sources = c.args.sources.now in
    let within : n < length sources = omega (arith, c.calls.invariant.within, c.calls-test.true, c.requires.sources.all) in
    have_zones c.args.part.now sources c.requires.sources c.requires.zones.0 c.args.zones.now c.requires.zones.1 n c.in-Some.family _ (slice_get-get_or sources n _ within) (sym c.family_of.ensures ∙ c.in-Some.is)

-- the scan so far, from the call before
from_next : (part : List Call) (sources : List Source) (zones : List Zone) (i : ℕ) (nearest : Option ℕ) → 0 < i → IsScanned part sources zones i nearest → IsScanned part sources zones (i - 1 + 1) nearest
from_next part sources zones i nearest some was = (let e : i ≡ i - 1 + 1 = omega arith in subst (λ (n : ℕ). IsScanned part sources zones n nearest) e was)

pub calls-preserved-then-is_within : goal.calls-preserved-then-is_within
calls-preserved-then-is_within c =
    let part = c.args.part.now in
    let sources = c.args.sources.now in
    let zones = c.args.zones.now in
    let n = c.calls.i - 1 in
    let of = c.requires.zones in
    let within : n < length sources = omega (arith, c.calls.invariant.within, c.calls-test.true, c.requires.sources.all) in
    let named = slice_get-get_or sources n source.Write within in
    let family = sym c.family_of.ensures ∙ c.in-Some.is in
    let small = have_zones part sources c.requires.sources of.0 zones of.1 n c.in-Some.family _ named family in
    let own = c.places.ensures in
    let here : Begins part sources n c.in-Some.family c.places.result.invoked = record { call = own.0; at = own.1; begun = sym own.2.invoked; from = get_or sources n source.Write; named = named; of = family } in
    record {
      within = omega (arith, c.calls.invariant.within);
      scanned = scanned_within part c.len-i.ensures.sequence sources c.requires.sources zones of.0 of.1 n c.calls.nearest (from_next part sources zones c.calls.i c.calls.nearest c.calls-test.true c.calls.invariant.scanned)
          c.in-Some.family c.places.result.invoked here _ (slice_get-get_or zones c.in-Some.family _ small) c.if-crosses.ensures (c.is_within.ensures.0 c.if-is_within.true);
    }

pub calls-preserved-else-is_within : goal.calls-preserved-else-is_within
calls-preserved-else-is_within c =
    let part = c.args.part.now in
    let sources = c.args.sources.now in
    let zones = c.args.zones.now in
    let n = c.calls.i - 1 in
    let of = c.requires.zones in
    let within : n < length sources = omega (arith, c.calls.invariant.within, c.calls-test.true, c.requires.sources.all) in
    let named = slice_get-get_or sources n source.Write within in
    let family = sym c.family_of.ensures ∙ c.in-Some.is in
    let small = have_zones part sources c.requires.sources of.0 zones of.1 n c.in-Some.family _ named family in
    let own = c.places.ensures in
    let here : Begins part sources n c.in-Some.family c.places.result.invoked = record { call = own.0; at = own.1; begun = sym own.2.invoked; from = get_or sources n source.Write; named = named; of = family } in
    record {
      within = omega (arith, c.calls.invariant.within);
      scanned = scanned_outside part c.len-i.ensures.sequence sources c.requires.sources zones of.0 of.1 n c.calls.nearest (from_next part sources zones c.calls.i c.calls.nearest c.calls-test.true c.calls.invariant.scanned)
          c.in-Some.family c.places.result.invoked here _ (slice_get-get_or zones c.in-Some.family _ small) c.if-crosses.ensures (λ w. false≢true (sym c.if-is_within.false ∙ c.is_within.ensures.1 w));
    }

pub calls-preserved : goal.calls-preserved
calls-preserved c =
    let part = c.args.part.now in
    let sources = c.args.sources.now in
    let zones = c.args.zones.now in
    let n = c.calls.i - 1 in
    let of = c.requires.zones in
    let within : n < length sources = omega (arith, c.calls.invariant.within, c.calls-test.true, c.requires.sources.all) in
    let named = slice_get-get_or sources n source.Write within in
    record {
      within = omega (arith, c.calls.invariant.within);
      scanned = scanned_same part c.len-i.ensures.sequence sources c.requires.sources zones of.0 of.1 n c.calls.nearest (from_next part sources zones c.calls.i c.calls.nearest c.calls-test.true c.calls.invariant.scanned)
          (λ k place b. c.in_default.not-Some k (c.family_of.ensures ∙ (ap (family_of n) (same_Some _ b.from (sym named ∙ b.named)) ∙ b.of)));
    }

pub returns : goal.returns
returns c =
    let of = c.requires.zones in
    let none : c.calls.i ≡ 0 = omega (arith, c.calls-test.false) in
    none_cross c.args.part.now c.len-i.ensures.sequence c.args.sources.now c.requires.sources c.args.zones.now of.0 of.1 c.calls.nearest (subst (λ (n : ℕ). IsScanned c.args.part.now c.args.sources.now c.args.zones.now n c.calls.nearest) none c.calls.invariant.scanned)
