use Rattle.std.proofs.Common.{◌<◌, None, length, sym, ◌∙◌, ap, arith}
use Rattle.std.proofs.lemmas.Option.{same_Some, slice_get_within, slice_get-get_or}
use Rattle.value_order.specs.declared.zones.Zone.{Zone}
use Rattle.value_order.proofs.Sides.{has_ended, has_begun, side_of}
use Rattle.value_order.proofs.opposed.side.Goals as goal

pub offset_bounds-zones-family : goal.offset_bounds-zones-family
offset_bounds-zones-family c =
    let h : c.args.family < length c.args.zones.now = slice_get_within c.args.zones.now c.args.family c.requires.there.2 c.requires.there.5 in
    omega (arith, h)

pub bounds-zones-family : goal.bounds-zones-family
bounds-zones-family c = slice_get_within c.args.zones.now c.args.family c.requires.there.2 c.requires.there.5

pub unreachable-requires : goal.unreachable-requires
unreachable-requires c =
    let h = c.requires.there in
    let at = slice_get-get_or c.args.zones.now c.args.family (record { first_end = None; last_begin = 0 }) (slice_get_within c.args.zones.now c.args.family h.2 h.5) in
    c.in_default.not-Some h.3 (ap (λ (z : Zone). z.first_end) (same_Some _ h.2 (sym at ∙ h.5)) ∙ h.6)

pub op-requires : goal.op-requires
op-requires c = slice_get_within c.args.part.now c.args.family c.requires.there.1 c.requires.there.4

pub ended_at-requires-clause-there : goal.ended_at-requires-clause-there
ended_at-requires-clause-there c =
    let h = c.requires.there in
    let at = slice_get-get_or c.args.zones.now c.args.family (record { first_end = None; last_begin = 0 }) (slice_get_within c.args.zones.now c.args.family h.2 h.5) in
    has_ended c.args.part.now c.args.family c.args.zones.now _ c.in-Some.end at c.in-Some.is h

pub begun_at-requires-clause-there : goal.begun_at-requires-clause-there
begun_at-requires-clause-there c =
    let h = c.requires.there in
    let at = slice_get-get_or c.args.zones.now c.args.family (record { first_end = None; last_begin = 0 }) (slice_get_within c.args.zones.now c.args.family h.2 h.5) in
    has_begun c.args.part.now c.args.family c.args.zones.now _ at h

pub returns : goal.returns
returns c row are =
    let h = c.requires.there in
    let at = slice_get-get_or c.args.zones.now c.args.family (record { first_end = None; last_begin = 0 }) (slice_get_within c.args.zones.now c.args.family h.2 h.5) in
    let op = c.op.ensures in
    (op.0, op.1, side_of c.args.part.now c.args.family c.args.zones.now c.attest.ensures row are _ c.in-Some.end op.0 (record { write = c.op.result; first_ended = c.ended_at.result; last_begun = c.begun_at.result }) at c.in-Some.is op.1 (sym op.2) c.ended_at.ensures c.begun_at.ensures)
