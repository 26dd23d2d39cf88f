use Rattle.std.proofs.Common.{◌≡◌, ◌++◌, map}
use Rattle.load_run.specs.Loads.{refusals_of}
use Rattle.load_run.specs.declared.callers.Called.{Called}
use Rattle.load_run.proofs.load_run.split_callers.Given as goal

abbrev pub invariant-loop-called : goal.invariant-loop-called
invariant-loop-called l =
    (l.seats.items ++ map (λ (c : Called). c.seat) l.called-iterator.rest.items ≡ map (λ (c : Called). c.seat) l.fn.callers.items)
    × (l.refusals.items ++ refusals_of l.called-iterator.rest.items ≡ refusals_of l.fn.callers.items)
