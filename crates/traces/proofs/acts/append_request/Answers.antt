use Rattle.std.proofs.Common.{codes}
use Rattle.std.proofs.lemmas.Result.{on_ok_weaker}
use Rattle.traces.specs.StepLines.{request_text}
use Rattle.sentences.proofs.Appending.{more, more_same}
use Rattle.traces.proofs.acts.append_request.Goals as goal

pub returns-in_ok-append-in-Query : goal.returns-in_ok-append-in-Query
unfolding request_text
returns-in_ok-append-in-Query c =
    rw c.in-Query.is (on_ok_weaker c.append-in-Query.result
    (more_same c.args.text.now.items _ _ _ _ _ c.as_str.ensures.text
    (more c.args.text.now.items _ _ _ (codes " about ") c.in_ok-append_replica-in-Query.ensures c.in_ok-append-in-Query.ensures))
    c.append-in-Query.ensures)
