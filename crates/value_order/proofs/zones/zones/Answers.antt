use Rattle.std.proofs.Common.{◌<◌, length, sym, ◌∙◌, ap, arith}
use Rattle.std.proofs.lemmas.Option.{slice_get_within, slice_get-get_or}
use Rattle.tag.proofs.Lists.{get_at, item_at}
use Rattle.recorder.specs.States.{place_in}
use Rattle.value_order.specs.Writers.{IsOnlyWriter}
use Rattle.value_order.proofs.CallKinds.{one_family, place_is, has_place}
use Rattle.value_order.proofs.Members.{source_family, no_family}
use Rattle.value_order.proofs.ZoneTables.{answered_at, zones_same, zones_more, zones_all}
use Rattle.value_order.proofs.zones.zones.Goals as goal
use Rattle.value_order.proofs.zones.zones.Goals.{in-Some+in-Some-response+then-end-row, in-Some+in-Some-response+else-end-row, in-Some+in_default-response, in_default}

pub index-requires : goal.index-requires
index-requires c =
    let part = c.args.part.now in
    let inside : c.loop-i.i < length part = omega (arith, c.loop-i-test.true, c.len-i-end.ensures.count) in
    let call = get_at part c.loop-i.i inside in
    let within : c.loop-i.i < length c.args.sources.now = omega (arith, c.requires.all) in
    let at = slice_get-get_or c.args.sources.now c.loop-i.i _ within in
    let w = source_family part c.loop-i.i c.in-Some.family call.0 _ call.1 (c.requires.each c.loop-i.i call.0 _ call.1 at) (sym c.family_of.ensures ∙ c.in-Some.is) in
    omega (arith, slice_get_within part c.in-Some.family w.0 w.1, c.loop-i.invariant.all, c.loop-i.zones.ok.0)

pub index_mut-requires : goal.index_mut-requires
index_mut-requires c =
    let part = c.args.part.now in
    let inside : c.loop-i.i < length part = omega (arith, c.loop-i-test.true, c.len-i-end.ensures.count) in
    let call = get_at part c.loop-i.i inside in
    let within : c.loop-i.i < length c.args.sources.now = omega (arith, c.requires.all) in
    let at = slice_get-get_or c.args.sources.now c.loop-i.i _ within in
    let w = source_family part c.loop-i.i c.in-Some.family call.0 _ call.1 (c.requires.each c.loop-i.i call.0 _ call.1 at) (sym c.family_of.ensures ∙ c.in-Some.is) in
    omega (arith, slice_get_within part c.in-Some.family w.0 w.1, c.loop-i.invariant.all, c.loop-i.zones.ok.0)

pub loop-i-preserved : goal.loop-i-preserved
loop-i-preserved c =
    let part = c.args.part.now in
    let i = c.loop-i.i in
    let row = c.args.row in
    let zones = c.loop-i.zones.items in
    let sequence = c.len-i-end.ensures.sequence in
    let inside : i < length part = omega (arith, c.loop-i-test.true, c.len-i-end.ensures.count) in
    let within : i < length c.args.sources.now = omega (arith, c.requires.all) in
    let source_at = slice_get-get_or c.args.sources.now i _ within in
    elim c.match-family_of.branch [
      | in-Some+in-Some-response+then-end-row w ↦
          let of = w.places-own.ensures in
          let f = source_family part i w.in-Some.family of.0 _ of.1 (c.requires.each i of.0 _ of.1 source_at) (sym c.family_of.ensures ∙ w.in-Some.is) in
          let r = has_place of.0 w.places-own.result.response w.in-Some-response.end of.2.response w.in-Some-response.is in
          let small = slice_get_within part w.in-Some.family f.0 f.1 in
          let here = item_at zones w.in-Some.family w.index.result.now (omega (arith, small, c.loop-i.invariant.all)) w.index.ensures in
          rw w.zones-is (zones_more part (IsOnlyWriter part) row i zones of.0 of.1 sequence (λ x y. one_family part x y of.0) w.in-Some.family f.0 w.index.result.now w.zone_with.result f.1 here f.2
          (record { response = r.0; responds = r.1; by = omega (arith, r.2, w.if-end-row.true) })
          (answered_at w.index.result.now w.zone_with.result w.in-Some-response.end w.places-own.result.invoked r.0.place of.0.invoked r.2 of.2.invoked w.zone_with.ensures) c.loop-i.invariant)
      | in-Some+in-Some-response+else-end-row w ↦
          let of = w.places-own.ensures in
          rw w.zones-is (zones_same part (IsOnlyWriter part) row i zones of.0 of.1 (λ write f a. (let p = place_is of.0 a.response w.places-own.result.response w.in-Some-response.end of.2.response w.in-Some-response.is a.responds in omega (arith, a.by, w.if-end-row.false))) c.loop-i.invariant)
      | in-Some+in_default-response w ↦
          let of = w.places-own.ensures in
          rw w.zones-is (zones_same part (IsOnlyWriter part) row i zones of.0 of.1 (λ write f a. w.in_default-response.not-Some a.response.place (of.2.response ∙ ap place_in a.responds)) c.loop-i.invariant)
      | in_default w ↦
          let call = get_at part i inside in
          rw w.zones-is (zones_same part (IsOnlyWriter part) row i zones call.0 call.1 (λ write f a. no_family part sequence i write call.0 _ (c.requires.each i call.0 _ call.1 source_at) (sym c.family_of.ensures ∙ w.in_default.is) f) c.loop-i.invariant)
    ]

pub returns : goal.returns
returns c = zones_all c.args.part.now (IsOnlyWriter c.args.part.now) c.args.row c.loop-i.i c.loop-i.zones.items (omega (arith, c.loop-i-test.false, c.len-i-end.ensures.count)) c.loop-i.invariant
