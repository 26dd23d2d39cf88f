use Rattle.std.proofs.Common.{get_or, arith}
use Rattle.tag.proofs.Lists.{place_of}
use Rattle.std.proofs.lemmas.Option.{slice_get_within}
use Rattle.monitored_key.specs.declared.kept_zone.KeptZone.{KeptZone}
use Rattle.record_monitor.proofs.AnsweredCalls.{gathered_more, one_more}
use Rattle.record_monitor.proofs.key_calls.places_of.Goals as goal

pub loop-zone-preserved : goal.loop-zone-preserved
loop-zone-preserved c =
    let zones = c.args.zones.now in
    let count = c.loop-zone.zone-index in
    let d : KeptZone = record { begin = 0; end = 0; last = 0 } in
    let zone = get_or zones count d in
    let old = c.loop-zone.places in
    let one = c.insert.new.self in
    let two = c.insert-in-loop-zone.new.self in
    let three = c.insert-in-loop-zone-2.new.self in
    let first = one_more old one zone.begin c.in_ok-insert.ensures.updates in
    let second = one_more one two zone.last c.in_ok-insert-2.ensures.updates in
    let third = one_more two three zone.end c.in_ok-insert-3.ensures.updates in
    gathered_more old three zones count d c.loop-zone.invariant (λ q h. third q (second q (first q h)))
    (record {
      write = third zone.begin (second zone.begin c.in_ok-insert.ensures.updates.1);
      last = third zone.last c.in_ok-insert-2.ensures.updates.1;
      end = c.in_ok-insert-3.ensures.updates.1;
    })

pub returns : goal.returns
returns c = λ zone there.
    let p = place_of c.args.zones.now zone there in
    c.loop-zone.invariant p.0 zone (omega (arith, slice_get_within c.args.zones.now p.0 zone p.1)) p.1
