use Rattle.cli.proofs.Told.{lines_more}
use Rattle.cli.proofs.check_outcome.lines_of.Goals as goal

pub loop-told-preserved : goal.loop-told-preserved
loop-told-preserved c =
    lines_more c.args.form c.args.verdicts.now c.loop-told.told-index c.told-item.result c.loop-told.text.items c.append_line_in.new.text.items c.loop-told-test.true c.told-item.is
    c.loop-told.invariant
    c.in_ok-append_line_in.ensures
