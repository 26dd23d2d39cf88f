use Rattle.std.proofs.lemmas.Bool.{false≢true}
use Rattle.value_order.proofs.Counting.{answered_read, no_answered_read}
use Rattle.value_order.proofs.counts.is_answered_read.Goals as goal

pub returns-then-state : goal.returns-then-state
returns-then-state c = (let of = c.state-state.ensures in (of.0, of.1, (λ t. absurd (false≢true t), λ h. absurd (no_answered_read of.0 c.state-state.result.is_write of.2.kind c.if-state.true h))))

pub returns : goal.returns
returns c = (let of = c.state-state.ensures in (of.0, of.1, answered_read of.0 c.state-state.result.is_write c.state-state.result.response c.is_some.result of.2.kind c.if-state.false of.2.response c.is_some.ensures))
