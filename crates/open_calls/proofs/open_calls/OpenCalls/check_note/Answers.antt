use Rattle.std.proofs.Common.{sym}
use Rattle.open_calls.proofs.open_calls.OpenCalls.check_note.Goals as goal

pub returns-in-Some-clause-err : goal.returns-in-Some-clause-err
returns-in-Some-clause-err g c = (c.in-Some.call.now, sym c.in-Some.ensures, c.if-call.true)

pub returns-in-Some-2-clause-ok : goal.returns-in-Some-2-clause-ok
returns-in-Some-2-clause-ok g c = (c.in-Some.call.now, record { is = sym c.in-Some.ensures; first = c.if-call.false })
