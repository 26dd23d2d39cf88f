-- The outcome was sent, or the output failed.
use Rattle.std.proofs.Common.{refl}
use Rattle.cli.proofs.Endings.{broke_off, sent}
use Rattle.cli.proofs.Reported.{failed, made}
use Rattle.cli.proofs.outcome.Outcome.send.Goals as goal

pub returns-then-is_err : goal.returns-then-is_err
returns-then-is_err g c =
    broke_off _ _ _ _ c.args.self.now refl (failed c.put.result _ c.if-is_err.ensures.negation (rw c.as_slice.ensures.value at c.put.ensures.begun))
    (failed c.put.result _ c.if-is_err.ensures.negation c.put.ensures.failed) c.report.result c.report.ensures.status c.report.ensures.told

pub returns : goal.returns
returns g c =
    rw c.status.ensures
    (sent _ _ _ _ c.args.self.now refl (made c.put.result _ c.if-is_err.ensures.negation (rw c.as_slice.ensures.value at c.put.ensures.sent)) (rw c.as_slice-2.ensures.value at c.note.ensures)
    c.args.self.now.found refl)
