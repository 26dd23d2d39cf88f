use Rattle.std.proofs.Common.{ℕ, ◌≡◌, length, subst, arith}
use Rattle.value_order.specs.Nothings.{IsFirstShown}
use Rattle.value_order.proofs.LateReads.{first_same, first_new, first_kept}
use Rattle.value_order.proofs.nothings.first_shown.Goals as goal
use Rattle.value_order.proofs.nothings.first_shown.Goals.{in-Some+then-is_sooner, in-Some+else-is_sooner, in_default}

pub loop-i-preserved : goal.loop-i-preserved
loop-i-preserved c =
    let part = c.args.part.now in
    let i = c.loop-i.i in
    elim c.match-shown_end.branch [
      | in-Some+then-is_sooner w ↦ rw w.first-is (first_new part i w.in-Some.end c.loop-i.first ((c.shown_end.ensures w.in-Some.end).0 w.in-Some.is) (w.is_sooner.ensures.0 w.if-is_sooner.true) c.loop-i.invariant)
      | in-Some+else-is_sooner w ↦ rw w.first-is (first_kept part i w.in-Some.end c.loop-i.first w.is_sooner.result ((c.shown_end.ensures w.in-Some.end).0 w.in-Some.is) w.is_sooner.ensures w.if-is_sooner.false c.loop-i.invariant)
      | in_default w ↦ rw w.first-is (first_same part i c.loop-i.first (λ end s k other e. absurd (w.in_default.not-Some end ((c.shown_end.ensures end).1 s))) (λ none end s. w.in_default.not-Some end ((c.shown_end.ensures end).1 s)) c.loop-i.invariant)
    ]

pub returns : goal.returns
returns c =
    let all : c.loop-i.i ≡ length c.args.part.now = omega (arith, c.loop-i-test.false, c.loop-i.auto.i-end, c.len-i-end.ensures.count) in
    subst (λ (n : ℕ). IsFirstShown c.args.part.now n c.loop-i.first) all c.loop-i.invariant
