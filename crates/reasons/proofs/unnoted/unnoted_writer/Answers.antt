use Rattle.std.proofs.Common.{arith, refl}
use Rattle.reasons.proofs.UnnotedWrites.{first_found, none_at_all, none_here, none_later, wrote}
use Rattle.reasons.proofs.unnoted.unnoted_writer.Goals as goal

pub returns-then-response-call : goal.returns-then-response-call
returns-then-response-call c =
    none_later c.args.part.now c.args.read.now c.in-Some.response c.in-Some.is c.len-k-end.ensures.sequence
    c.loop-k.k c.call-call.result c.call-call.ensures c.if-response-call.true c.loop-k.invariant

pub returns-then-is_unnoted_write : goal.returns-then-is_unnoted_write
returns-then-is_unnoted_write c =
    let answers = rw c.in-Some-Some.field-0-is at c.in-Some-Some.ensures.read in
    first_found c.args.part.now c.args.read.now c.in-Some.response c.in-Some.is c.requires
    c.in-Some-Some.value answers c.len-k-end.ensures.sequence
    c.loop-k.k c.call-call.result c.call-call.ensures c.if-response-call.false
    (c.is_unnoted_write.ensures.0 c.if-is_unnoted_write.true) c.loop-k.invariant

pub loop-k-preserved : goal.loop-k-preserved
loop-k-preserved c =
    let answers = rw c.in-Some-Some.field-0-is at c.in-Some-Some.ensures.read in
    let write = wrote c.args.part.now c.args.read.now c.in-Some.response c.in-Some.is c.requires c.in-Some-Some.value answers in
    none_here c.args.part.now c.args.read.now c.loop-k.k _ c.call-call.result refl c.call-call.ensures
    (λ is. let yes = c.is_unnoted_write.ensures.1 (write c.call-call.result is) in cc (yes, c.if-is_unnoted_write.false))
    c.loop-k.invariant

pub returns : goal.returns
returns c =
    none_at_all c.args.part.now c.args.read.now c.loop-k.k
    (omega (arith, c.loop-k-test.false, c.len-k-end.ensures.count)) c.loop-k.invariant
