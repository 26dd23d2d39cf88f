use Rattle.open_calls.proofs.open_calls.OpenCalls.open_count.Goals as goal

pub returns : goal.returns
returns g c = rw (← c.self.view_is) c.self.invariant.counted
