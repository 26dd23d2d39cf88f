use Rattle.std.proofs.Common.{refl}
use Rattle.value_order.proofs.StaleTables.{no_end_read, no_end_pending, end_here, not_true, not_false}
use Rattle.value_order.proofs.ended.end_key.Goals as goal

pub returns-then-not-state : goal.returns-then-not-state
returns-then-not-state c = (let of = c.state-state.ensures in no_end_read c.args.part.now c.args.i of.0 c.state-state.result.is_write of.1 of.2.kind (not_true _ c.if-not-state.true))

pub returns-in_err-end : goal.returns-in_err-end
returns-in_err-end c = rw c.from_residual.ensures (let of = c.state-state.ensures in no_end_pending c.args.part.now c.args.i of.0 c.state-state.result.response of.1 of.2.response c.in_err-end.was)

pub returns : goal.returns
returns c = (refl, rw c.from.ensures (let of = c.state-state.ensures in end_here c.args.part.now c.args.i of.0 c.state-state.result.is_write c.state-state.result.response c.in_ok-end.end of.1 of.2.kind (not_false _ c.if-not-state.false) of.2.response c.in_ok-end.was))
