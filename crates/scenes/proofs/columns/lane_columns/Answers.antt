use Rattle.scenes.proofs.ColumnClients.{own_each}
use Rattle.scenes.proofs.columns.lane_columns.Goals as goal

pub returns-then-lanes-le-OWN_COLUMNS : goal.returns-then-lanes-le-OWN_COLUMNS
returns-then-lanes-le-OWN_COLUMNS c = own_each c.args.bars.now c.args.lanes c.own_columns.result c.own_columns.ensures.all c.own_columns.ensures.own
    c.own_columns.ensures.count c.if-lanes-le-OWN_COLUMNS.true
