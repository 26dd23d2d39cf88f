use Rattle.std.proofs.Common.{List, get_or, subst, arith}
use Rattle.std.proofs.lemmas.List.{take_all}
use Rattle.std.proofs.lemmas.Option.{slice_get-get_or, slice_get_within}
use Rattle.tag.specs.declared.numbers.OpId.{OpId}
use Rattle.scenes.specs.Listed.{AreFirstPlaces}
use Rattle.scenes.specs.declared.scene.Bar.{Bar}
use Rattle.scenes.proofs.Places.{no_places, places_next, places_none}
use Rattle.scenes.proofs.Rising.{rises_from}
use Rattle.scenes.proofs.listed.first_places.Goals as goal
use Rattle.scenes.proofs.listed.first_places.Goals.{in-Some, in_default}

pub loop-place-init : goal.loop-place-init
loop-place-init c = no_places c.args.bars.now c.in_ok-places.places.items c.in_ok-places.ensures.all c.in_ok-places.ensures.each

pub keep_first-requires : goal.keep_first-requires
keep_first-requires c =
    let found = c.in-Some.ensures.found in
    omega (arith, slice_get_within c.args.bars.now c.in-Some.bar found.0 found.1, c.loop-place.invariant.all)

pub loop-place-preserved : goal.loop-place-preserved
loop-place-preserved c =
    let order = c.args.order.now in
    let bars = c.args.bars.now in
    let k = c.loop-place.place in
    let at = slice_get-get_or order k (record { 0 = 0 }) c.loop-place-test.true in
    let up = rises_from (λ (bar : Bar). bar.call.0) bars c.requires in
    elim c.match-bar_of.branch [
      | in-Some w ↦ rw w.places-is
          (places_next order bars up k w.in-Some.bar (get_or order k (record { 0 = 0 })) c.loop-place.places.items _ at w.in-Some.ensures.found w.keep_first.ensures
          c.loop-place.invariant)
      | in_default w ↦ rw w.places-is
          (places_none order bars up k (get_or order k (record { 0 = 0 })) c.loop-place.places.items at w.in_default.ensures.none c.loop-place.invariant)
    ]

pub returns : goal.returns
returns c = subst (λ (l : List OpId). AreFirstPlaces l c.args.bars.now c.loop-place.places.items)
    (take_all c.loop-place.place c.args.order.now c.loop-place-test.false) c.loop-place.invariant
