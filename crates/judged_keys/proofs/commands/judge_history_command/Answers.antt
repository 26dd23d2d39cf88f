-- The history was read, and what is made of its keys was sent; or it has a fault.
use Rattle.std.proofs.Common.{inl, inr, refl}
use Rattle.cli.specs.declared.status.Failure.TheVariants as failure
use Rattle.cli.proofs.Endings.{stopped}
use Rattle.judged_keys.proofs.Ending.{history_read, of_history}
use Rattle.judged_keys.proofs.commands.judge_history_command.Goals as goal

pub returns-in-Ok-clause-ends : goal.returns-in-Ok-clause-ends
returns-in-Ok-clause-ends g c =
    of_history _ _ (g.P.Presentation.Presents c.args.shown.now) _ (λ why is. inr is) c.in-Ok.files c.made_of.result c.made_of.ensures.made
    c.made_of.ensures.stops c.conclude.result c.conclude.ensures _ c.in-Ok.ensures.read c.in-Ok.ensures.none

pub returns-in-Ok-clause-faulty : goal.returns-in-Ok-clause-faulty
returns-in-Ok-clause-faulty g c = history_read _ _ c.in-Ok.ensures.read

pub returns-in-Err-clause-ends : goal.returns-in-Err-clause-ends
returns-in-Err-clause-ends g c =
    stopped _ _ _ _ (failure.File c.args.history.now.name c.in-Err.fault) (inl (refl, c.in-Err.ensures.stops)) refl c.report.result
    (rw c.faulty.ensures at c.report.ensures.status) (rw c.faulty.ensures at c.report.ensures.told)
