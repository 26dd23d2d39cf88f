use Rattle.std.proofs.Common.{◌≡◌, ◌++◌, map}
use Rattle.load_run.specs.Callers.{AreNew, work_of}
use Rattle.load_run.proofs.callers.start_all.Given as goal

abbrev pub invariant-loop-seat : goal.invariant-loop-seat
invariant-loop-seat g l =
    (map (λ h. h.promise) l.started.items ++ map (λ s. work_of l.load s.client) l.seat-iterator.rest.items ≡ map
    (λ s. work_of l.load s.client) l.fn.seats.items)
    × AreNew l.store.config l.seat-iterator.rest.items
