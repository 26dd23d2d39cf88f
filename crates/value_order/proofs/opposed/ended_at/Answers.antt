use Rattle.std.proofs.Common.{◌<◌, refl, length, sym, ◌∙◌, ap, arith}
use Rattle.std.proofs.lemmas.Bool.{false≢true}
use Rattle.std.proofs.lemmas.Option.{slice_get-get_or}
use Rattle.tag.proofs.Lists.{get_at}
use Rattle.recorder.specs.declared.part.Call.{Call}
use Rattle.value_order.specs.Rows.{EndedAt}
use Rattle.value_order.proofs.CallKinds.{call_at}
use Rattle.value_order.proofs.SortLists.{family_is}
use Rattle.value_order.proofs.Sides.{member_more, member_found, member_here}
use Rattle.value_order.proofs.opposed.ended_at.Goals as goal
use Rattle.value_order.proofs.opposed.ended_at.Goals.{else-is_of-via-then-is_of+else-ends_at, else-is_of-via-else-is_of}

pub returns-then-ends_at : goal.returns-then-ends_at
returns-then-ends_at c =
    let part = c.args.part.now in
    let i = c.loop-i.i in
    let h = c.ends_at.ensures in
    let within : i < length c.args.sources.now = omega (arith, c.loop-i-test.true, c.len-i-end.ensures.count, c.requires.sources.all) in
    let op = c.op.ensures in
    member_here part i c.args.family (λ (call : Call). EndedAt call c.args.place) h.0 _ c.op.result h.1 (c.requires.sources.each i h.0 _ h.1 (slice_get-get_or c.args.sources.now i _ within)) (c.is_of.ensures.0 c.if-is_of.true) (h.2.0 c.if-ends_at.true)
    (op.2 ∙ ap (λ (x : Call). x.op) (call_at part i i op.0 h.0 op.1 h.1 refl))

pub loop-i-preserved : goal.loop-i-preserved
loop-i-preserved c =
    let part = c.args.part.now in
    let i = c.loop-i.i in
    let inside : i < length part = omega (arith, c.loop-i-test.true, c.len-i-end.ensures.count) in
    let within : i < length c.args.sources.now = omega (arith, inside, c.requires.sources.all) in
    elim c.else-is_of.branch [
      | else-is_of-via-then-is_of+else-ends_at w ↦ member_more part c.args.family (λ (call : Call). EndedAt call c.args.place) i w.ends_at.ensures.0 w.ends_at.ensures.1 (λ write at_k of has. false≢true (sym w.if-ends_at.false ∙ w.ends_at.ensures.2.1 has)) c.loop-i.invariant
      | else-is_of-via-else-is_of w ↦
          let call = get_at part i inside in
          member_more part c.args.family (λ (call : Call). EndedAt call c.args.place) i call.0 call.1 (λ write at_k of has. false≢true (sym w.if-is_of.false ∙ c.is_of.ensures.1 (family_is part c.len-i-end.ensures.sequence i c.args.family call.0 write _ call.1 at_k (c.requires.sources.each i call.0 _ call.1 (slice_get-get_or c.args.sources.now i _ within)) of))) c.loop-i.invariant
    ]

pub unreachable-requires : goal.unreachable-requires
unreachable-requires c = member_found c.args.part.now c.args.family (λ (call : Call). EndedAt call c.args.place) c.loop-i.i (omega (arith, c.loop-i-test.false, c.len-i-end.ensures.count)) c.loop-i.invariant c.requires.there
