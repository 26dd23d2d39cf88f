use Rattle.std.proofs.Common.{◌≡◌, List, IfOk, ap, subst, ◌∙◌}
use Rattle.node_threads.specs.Closings.{Closes}
use Rattle.seats.specs.Seats.{Seat}
use Rattle.node_threads.specs.declared.config.StoreConfig.{StoreConfig}
use Rattle.load.specs.declared.load.LoadOptions.{LoadOptions}
use Rattle.load_run.specs.Callers.{AreCalled}
use Rattle.load_run.specs.LoadStores.{settings_of}
use Rattle.load_run.proofs.Seating.{called, seated_new}
use Rattle.load_run.proofs.load_run.run_load.Goals as goal

pub call_together-requires-clause-new : goal.call_together-requires-clause-new
call_together-requires-clause-new g c κs within = seated_new c.in_ok-store.store.config c.options-options.result.callers c.in_ok-seats.seats.items
    c.in_ok-seats.ensures.seated

pub returns : goal.returns
returns g c =
    let options = c.options-options.result in
    let is : options ≡ c.args.load = c.options-options.ensures.options in
    let seats = c.in_ok-seats.seats.items in
    let callers = c.in_ok-callers.callers.items in
    record {
      callers = callers;
      called = subst (λ (o : LoadOptions). AreCalled o callers) is (called c.in_ok-store.store.config options seats callers
          c.in_ok-seats.ensures.seated c.in_ok-callers.ensures.called);
      refusals = c.in_ok-seats-2.ensures.refused;
      closed = subst (λ (all : List Seat). IfOk c.close.result (λ closed. Closes (settings_of c.args.load) all closed.halls.items))
          c.in_ok-seats-2.ensures.seats
          (subst (λ (s : StoreConfig). IfOk c.close.result (λ closed. Closes s c.in_ok-seats-2.seats.items closed.halls.items))
          (ap (λ s. s.config) c.in_ok-store.ensures ∙ ap settings_of is) c.close.ensures.closed);
    }
