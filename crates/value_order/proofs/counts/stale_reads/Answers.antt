use Rattle.std.proofs.Common.{sym, ◌∙◌, arith}
use Rattle.std.proofs.lemmas.Bool.{false≢true}
use Rattle.value_order.specs.Faults.{IsStale}
use Rattle.value_order.proofs.Counting.{count_has, count_lacks, count_all}
use Rattle.value_order.proofs.counts.stale_reads.Goals as goal
use Rattle.value_order.proofs.counts.stale_reads.Goals.{then-is_stale, else-is_stale}

pub loop-i-preserved : goal.loop-i-preserved
loop-i-preserved c =
    let part = c.args.part.now in
    let h = c.is_stale.ensures in
    let l = c.loop-i in
    elim c.if-is_stale.branch [
      | then-is_stale w ↦ rw w.count-is (record { most = omega (arith, l.invariant.most); counted = count_has (IsStale part) part l.i l.count h.0 h.1 l.invariant.counted (h.2.0 w.if-is_stale.true) })
      | else-is_stale w ↦ rw w.count-is (record { most = omega (arith, l.invariant.most); counted = count_lacks (IsStale part) part l.i l.count h.0 h.1 l.invariant.counted (λ p. false≢true (sym w.if-is_stale.false ∙ h.2.1 p)) })
    ]

pub returns : goal.returns
returns c = count_all (IsStale c.args.part.now) c.args.part.now c.loop-i.i c.loop-i.count (omega (arith, c.loop-i-test.false, c.len-i-end.ensures.count)) c.loop-i.invariant.counted
