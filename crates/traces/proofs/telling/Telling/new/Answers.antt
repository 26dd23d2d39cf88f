use Rattle.script_runs.proofs.Quotas.{none_shown}
use Rattle.traces.specs.Running.{IsText}
use Rattle.traces.proofs.telling.Telling.new.Goals as goal

pub returns : goal.returns
returns c =
    none_shown (IsText (record { text = c.new.result; quota = c.new-2.result })) c.args.most c.new-2.result c.new.ensures.items c.new-2.ensures
