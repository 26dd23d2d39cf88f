use Rattle.cli.proofs.Told.{refused_here, yes_more}
use Rattle.cli.proofs.check_outcome.found_in.Goals as goal

pub loop-told-preserved : goal.loop-told-preserved
loop-told-preserved c =
    yes_more c.args.verdicts.now c.loop-told.told-index c.told-item.result c.loop-told-test.true c.told-item.is c.in-Yes.is c.loop-told.invariant

pub returns-in-No : goal.returns-in-No
returns-in-No c =
    refused_here c.args.verdicts.now c.loop-told.told-index c.told-item.result c.in-No.field-0 c.loop-told-test.true c.told-item.is c.in-No.is
