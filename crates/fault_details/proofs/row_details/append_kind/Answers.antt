use Rattle.std.proofs.Common.{codes}
use Rattle.std.proofs.lemmas.Result.{on_ok_weaker}
use Rattle.fault_details.proofs.Pieces.{more}
use Rattle.fault_details.proofs.row_details.append_kind.Goals as goal

pub returns-in_ok-append_call_at-in-None : goal.returns-in_ok-append_call_at-in-None
returns-in_ok-append_call_at-in-None c =
    rw c.in-None.ensures.read (on_ok_weaker c.append.result
    (more c.args.text.now.items _ _ _ (codes ": its answer has \"value\"\n") c.in_ok-append_call_at-in-None.ensures) c.append.ensures)

pub returns-in_ok-append_call_at-in-Some : goal.returns-in_ok-append_call_at-in-Some
returns-in_ok-append_call_at-in-Some c =
    rw c.in-Some.ensures.write (on_ok_weaker c.append-in-Some.result
    (more c.args.text.now.items _ _ _ (codes ": its answer has no \"value\"\n") c.in_ok-append_call_at-in-Some.ensures) c.append-in-Some.ensures)
