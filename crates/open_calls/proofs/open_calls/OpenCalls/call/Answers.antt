use Rattle.std.proofs.Common.{sym, ◌∙◌}
use Rattle.open_calls.proofs.Mapped.{get_map}
use Rattle.open_calls.proofs.open_calls.OpenCalls.call.Goals as goal

pub returns : goal.returns
returns g c = rw (← c.self.view_is) (rw c.from.ensures at c.get.ensures ∙ sym (get_map c.self.inside.calls c.self.invariant.calls_fit c.args.op.0))
