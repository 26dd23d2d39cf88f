use Rattle.std.proofs.Common.{ℕ, ◌<◌, ◌++◌, length, get_or, ap, ◌∙◌, arith}
use Rattle.std.proofs.lemmas.Option.{slice_get-get_or}
use Rattle.tag.proofs.Lists.{Contains-slice_get}
use Rattle.scenes.specs.Gaps.{gap_between}
use Rattle.scenes.proofs.LeftOut.{are_gaps, gaps_last, gaps_step}
use Rattle.scenes.proofs.gaps.gaps_of.Goals as goal

pub add_gap-requires : goal.add_gap-requires
add_gap-requires c =
    let shown = c.args.shown.now in
    let k = c.loop-i.i-index in
    let below : get_or shown k 0 < length c.args.part.now = c.requires.within _ (Contains-slice_get shown k _ (slice_get-get_or shown k 0 c.loop-i-test.true)) in
    omega (arith, below)

pub overflow_add-from : goal.overflow_add-from
overflow_add-from c =
    let shown = c.args.shown.now in
    let k = c.loop-i.i-index in
    let below : get_or shown k 0 < length c.args.part.now = c.requires.within _ (Contains-slice_get shown k _ (slice_get-get_or shown k 0 c.loop-i-test.true)) in
    let count = c.len-calls.ensures.count in
    let fits = c.len-calls.type_inv in
    omega (arith, below, count, fits)

pub loop-i-preserved : goal.loop-i-preserved
loop-i-preserved c =
    let part = c.args.part.now in
    let shown = c.args.shown.now in
    let k = c.loop-i.i-index in
    let below : get_or shown k 0 < length part = c.requires.within _ (Contains-slice_get shown k _ (slice_get-get_or shown k 0 c.loop-i-test.true)) in (
      gaps_step part c.loop-i.from k 0 shown c.loop-i.gaps.items _ _ c.loop-i-test.true c.in_ok-add_gap.ensures c.loop-i.invariant.0,
      omega (arith, below),
    )

pub returns : goal.returns
returns c =
    let part = c.args.part.now in
    let shown = c.args.shown.now in
    let l = c.loop-i in
    let added = c.in_ok-add_gap-2.ensures ∙ ap (λ (n : ℕ). l.gaps.items ++ gap_between part l.from n) c.len-calls.ensures.count in
    are_gaps part c.len-calls.ensures.sequence shown _ c.requires (gaps_last part l.from l.i-index shown l.gaps.items _ _ c.loop-i-test.false added l.invariant.0)
