use Rattle.value_order.proofs.Counting.{write_end_at, no_write_end}
use Rattle.value_order.proofs.counts.write_end.Goals as goal

pub returns-then-state : goal.returns-then-state
returns-then-state c = (let of = c.state-state.ensures in write_end_at c.args.part.now c.args.i of.0 c.state-state.result.is_write c.state-state.result.response of.1 of.2.kind c.if-state.true of.2.response)

pub returns-else-state : goal.returns-else-state
returns-else-state c = (let of = c.state-state.ensures in no_write_end c.args.part.now c.args.i of.0 c.state-state.result.is_write of.1 of.2.kind c.if-state.false)
