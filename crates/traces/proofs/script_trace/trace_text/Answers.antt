use Rattle.std.proofs.lemmas.Result.{IfOk-weaker}
use Rattle.traces.proofs.script_trace.trace_text.Goals as goal

pub returns : goal.returns
returns c =
    IfOk-weaker c.into_text.result _ _ (λ text is. is c.args.script c.args.most c.in_ok-run.run'.world c.new.result c.new.ensures
    c.in_ok-run.ensures) c.into_text.ensures
