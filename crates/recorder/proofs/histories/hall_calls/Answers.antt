use Rattle.std.proofs.Common.{◌≡◌, ◌+◌, ap, sym, ◌∙◌, arith, take}
use Rattle.std.specs.Prelude.{slice_index_or}
use Rattle.std.proofs.lemmas.List.Sums.{fold_more}
use Rattle.recorder.specs.Histories.{Recorded, call_count}
use Rattle.recorder.specs.Halls.{hall_calls}
use Rattle.recorder.proofs.histories.hall_calls.Goals as goal

pub overflow_add-total : goal.overflow_add-total
overflow_add-total c = omega (arith, c.loop-k.invariant.1, c.calls-total.ensures.few, c.requires, c.loop-k-test.true)

pub loop-k-preserved : goal.loop-k-preserved
loop-k-preserved c =
    let history = c.index-histories-k.result in
    let more : hall_calls (take (c.loop-k.k + 1) c.args.histories.now) ≡ hall_calls (take c.loop-k.k c.args.histories.now) + call_count (slice_index_or c.args.histories.now c.loop-k.k history).rows =
    fold_more (λ total hall. total + call_count hall.rows) 0 c.args.histories.now c.loop-k.k history c.loop-k-test.true in
    let same : call_count (slice_index_or c.args.histories.now c.loop-k.k history).rows ≡ c.calls-total.result =
    ap (λ (hall : Recorded). call_count hall.rows) (sym c.index-histories-k.is) ∙ sym c.calls-total.ensures.count in
    (omega (arith, more, same, c.loop-k.invariant.0), omega (arith, c.loop-k.invariant.1, c.calls-total.ensures.few))
