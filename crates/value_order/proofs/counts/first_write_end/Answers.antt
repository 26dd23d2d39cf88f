use Rattle.std.proofs.Common.{ℕ, ◌≡◌, length, subst, arith}
use Rattle.value_order.specs.Ended.{IsFirstWriteEnd}
use Rattle.value_order.proofs.Counting.{write_end_same, write_end_more}
use Rattle.value_order.proofs.counts.first_write_end.Goals as goal
use Rattle.value_order.proofs.counts.first_write_end.Goals.{in-Some, in_default}

pub loop-i-preserved : goal.loop-i-preserved
loop-i-preserved c =
    let part = c.args.part.now in
    let i = c.loop-i.i in
    elim c.match-write_end.branch [
      | in-Some w ↦ rw w.first-is (write_end_more part i w.in-Some.end w.sooner_of.result c.loop-i.first ((c.write_end.ensures w.in-Some.end).0 w.in-Some.is) w.sooner_of.ensures.first w.sooner_of.ensures.sooner c.loop-i.invariant)
      | in_default w ↦ rw w.first-is (write_end_same part i c.loop-i.first (λ end s. w.in_default.not-Some end ((c.write_end.ensures end).1 s)) c.loop-i.invariant)
    ]

pub returns : goal.returns
returns c =
    let all : c.loop-i.i ≡ length c.args.part.now = omega (arith, c.loop-i-test.false, c.loop-i.auto.i-end, c.len-i-end.ensures.count) in
    subst (λ (n : ℕ). IsFirstWriteEnd c.args.part.now n c.loop-i.first) all c.loop-i.invariant
