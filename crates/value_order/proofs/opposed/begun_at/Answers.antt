use Rattle.std.proofs.Common.{◌≡◌, ◌<◌, refl, length, sym, ◌∙◌, ap, arith}
use Rattle.std.proofs.lemmas.Bool.{false≢true}
use Rattle.std.proofs.lemmas.Option.{slice_get-get_or}
use Rattle.tag.proofs.Lists.{get_at}
use Rattle.recorder.specs.declared.part.Call.{Call}
use Rattle.value_order.proofs.CallKinds.{call_at}
use Rattle.value_order.proofs.SortLists.{family_is}
use Rattle.value_order.proofs.Sides.{member_more, member_found, member_here}
use Rattle.value_order.proofs.opposed.begun_at.Goals as goal
use Rattle.value_order.proofs.opposed.begun_at.Goals.{else-is_of-via-then-is_of+else-places-place, else-is_of-via-else-is_of}

pub returns-then-places-place : goal.returns-then-places-place
returns-then-places-place c =
    let part = c.args.part.now in
    let i = c.loop-i.i in
    let h = c.places.ensures in
    let within : i < length c.args.sources.now = omega (arith, c.loop-i-test.true, c.len-i-end.ensures.count, c.requires.sources.all) in
    let op = c.op.ensures in
    member_here part i c.args.family (λ (call : Call). call.invoked ≡ c.args.place) h.0 _ c.op.result h.1 (c.requires.sources.each i h.0 _ h.1 (slice_get-get_or c.args.sources.now i _ within)) (c.is_of.ensures.0 c.if-is_of.true) (sym h.2.invoked ∙ c.if-places-place.true)
    (op.2 ∙ ap (λ (x : Call). x.op) (call_at part i i op.0 h.0 op.1 h.1 refl))

pub loop-i-preserved : goal.loop-i-preserved
loop-i-preserved c =
    let part = c.args.part.now in
    let i = c.loop-i.i in
    let inside : i < length part = omega (arith, c.loop-i-test.true, c.len-i-end.ensures.count) in
    let within : i < length c.args.sources.now = omega (arith, inside, c.requires.sources.all) in
    elim c.else-is_of.branch [
      | else-is_of-via-then-is_of+else-places-place w ↦ member_more part c.args.family (λ (call : Call). call.invoked ≡ c.args.place) i w.places.ensures.0 w.places.ensures.1 (λ write at_k of has. w.if-places-place.false (w.places.ensures.2.invoked ∙ has)) c.loop-i.invariant
      | else-is_of-via-else-is_of w ↦
          let call = get_at part i inside in
          member_more part c.args.family (λ (call : Call). call.invoked ≡ c.args.place) i call.0 call.1 (λ write at_k of has. false≢true (sym w.if-is_of.false ∙ c.is_of.ensures.1 (family_is part c.len-i-end.ensures.sequence i c.args.family call.0 write _ call.1 at_k (c.requires.sources.each i call.0 _ call.1 (slice_get-get_or c.args.sources.now i _ within)) of))) c.loop-i.invariant
    ]

pub unreachable-requires : goal.unreachable-requires
unreachable-requires c = member_found c.args.part.now c.args.family (λ (call : Call). call.invoked ≡ c.args.place) c.loop-i.i (omega (arith, c.loop-i-test.false, c.len-i-end.ensures.count)) c.loop-i.invariant c.requires.there
