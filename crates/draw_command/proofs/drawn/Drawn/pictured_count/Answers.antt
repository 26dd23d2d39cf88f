-- The page has no room for one key more, or has room for all.
use Rattle.std.proofs.Common.{ℕ, ◌+◌, ap₂, take, sym, ◌∙◌, arith}
use Rattle.draw_command.specs.Pictured.{window_size}
use Rattle.draw_command.proofs.Fitting.{all_fit, no_room, one_more}
use Rattle.draw_command.proofs.drawn.Drawn.pictured_count.Goals as goal

pub returns-then-calls-size : goal.returns-then-calls-size
returns-then-calls-size c =
    let drawn = c.args.self.now in
    let keys = c.args.keys.now in
    let m = c.min.result in
    let n = c.loop-n.n in
    let more = one_more (window_size drawn) (take m keys) n c.index-first-n.result c.loop-n-test.true c.index-first-n.is in
    no_room drawn keys m n (omega (arith, c.min.ensures, c.from.ensures)) c.loop-n-test.true (omega (arith, c.loop-n.invariant.0, c.loop-n.invariant.1))
    (omega (arith, more, c.window_size-size.ensures, c.loop-n.invariant.0, c.loop-n.invariant.1, c.if-calls-size.true))

pub loop-n-preserved : goal.loop-n-preserved
loop-n-preserved c =
    let more = one_more (window_size c.args.self.now) (take c.min.result c.args.keys.now) c.loop-n.n c.index-first-n.result c.loop-n-test.true c.index-first-n.is in
    (ap₂ (λ (a b : ℕ). a + b) c.loop-n.invariant.0 c.window_size-size.ensures ∙ sym more, omega (arith, c.loop-n.invariant.1, c.if-calls-size.false))

pub returns : goal.returns
returns c =
    all_fit c.args.self.now c.args.keys.now c.min.result c.loop-n.n (omega (arith, c.min.ensures, c.from.ensures)) c.loop-n-test.false (omega (arith, c.loop-n.invariant.0, c.loop-n.invariant.1))
