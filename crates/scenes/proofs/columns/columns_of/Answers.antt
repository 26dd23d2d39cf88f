use Rattle.std.proofs.Common.{arith}
use Rattle.scenes.proofs.ColumnClients.{all_columns, column_more}
use Rattle.scenes.proofs.columns.columns_of.Goals as goal

pub loop-number-preserved : goal.loop-number-preserved
loop-number-preserved c =
    column_more c.args.lanes.now c.args.columns.now c.loop-number.number c.loop-number.all.items _ _ c.in_ok-push.ensures.items
    c.in_ok-clients.ensures.rising c.in_ok-clients.ensures.clients c.loop-number.invariant

pub returns : goal.returns
returns c = all_columns c.args.lanes.now c.args.columns.now c.args.count c.loop-number.number c.loop-number.all.items c.requires.all c.requires.each
    c.requires.within (omega (arith, c.loop-number-test.false, c.loop-number.auto.number-end)) c.loop-number.invariant
