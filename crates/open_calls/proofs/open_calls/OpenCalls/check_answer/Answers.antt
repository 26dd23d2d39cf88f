use Rattle.std.proofs.Common.{sym}
use Rattle.open_calls.proofs.Views.{bools_differ, bools_same}
use Rattle.open_calls.proofs.open_calls.OpenCalls.check_answer.Goals as goal

pub returns-in-Some-clause-err : goal.returns-in-Some-clause-err
returns-in-Some-clause-err g c = (c.in-Some.call.now, sym c.in-Some.ensures, bools_differ c.in-Some.call.now.is_write c.args.is_write c.if-call-is_write.true)

pub returns-in-Some-2-clause-ok : goal.returns-in-Some-2-clause-ok
returns-in-Some-2-clause-ok g c = (c.in-Some.call.now, record { is = sym c.in-Some.ensures; kind = bools_same c.in-Some.call.now.is_write c.args.is_write c.if-call-is_write.false })
