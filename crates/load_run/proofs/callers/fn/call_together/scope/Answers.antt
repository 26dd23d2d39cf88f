use Rattle.std.proofs.Common.{arith}
use Rattle.load_run.proofs.Seating.{kept}
use Rattle.load_run.proofs.callers.fn.call_together.scope.Goals as goal

pub returns-in-Ok : goal.returns-in-Ok
returns-in-Ok g c =
    let handles = c.in_ok-started.started in
    let callers = c.in-Ok.callers in
    let len = c.in-Ok.ensures.len in
    let held = handles.ok.0 in
    record {
      called = kept (λ h. h.promise) c.captures.load.now handles.items c.captures.seats.items callers.items
          c.in_ok-started.ensures.started (let given = callers.ok.0 in omega (arith, len, held, given))
          (λ i d below. let one = (c.in-Ok.ensures.each i d (omega (arith, below, held))).1
          in (one.handle, one.handle_is, one.kept));
      why = tt;
    }
