use Rattle.load_run.specs.Callers.{HasMade, IsOpenSeat}
use Rattle.load_run.proofs.callers.make_calls.Given as goal

abbrev pub invariant-loop-number : goal.invariant-loop-number
invariant-loop-number g l = record { made : HasMade l.work l.number l.seat; open_seat : IsOpenSeat l.store.config l.seat }
