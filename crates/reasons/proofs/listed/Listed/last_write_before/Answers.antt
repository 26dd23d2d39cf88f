use Rattle.std.proofs.Common.{arith}
use Rattle.reasons.proofs.ListedCalls.{no_write_from}
use Rattle.reasons.proofs.listed.Listed.last_write_before.Goals as goal

pub returns-in-Some : goal.returns-in-Some
returns-in-Some c = (
  omega arith,
  c.in-Some.ensures.found.0,
  c.in-Some.ensures.found.1,
  λ k value low less write. c.loop-i.invariant k value (omega arith) less write,
)

pub loop-i-preserved : goal.loop-i-preserved
loop-i-preserved c =
    let s = c.args.self.now in
    no_write_from s.part.now s.order.now _ c.loop-i.i c.args.place (omega arith) c.in_default.ensures.none c.loop-i.invariant

pub returns : goal.returns
returns c = λ k value low less write. c.loop-i.invariant k value (omega arith) less write
