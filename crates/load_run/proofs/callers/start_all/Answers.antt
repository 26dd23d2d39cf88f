use Rattle.std.proofs.Common.{◌≡◌, ap, rules, subst, sym, ◌∙◌}
use Rattle.node_threads.specs.Joins.{IsNewSeat}
use Rattle.load_run.specs.Callers.{AreNew, work_of}
use Rattle.load_run.proofs.EachCaller.{more, none_yet}
use Rattle.load_run.proofs.Seating.{new_first, new_left}
use Rattle.load_run.proofs.callers.start_all.Goals as goal

pub loop-seat-init : goal.loop-seat-init
loop-seat-init g c =
    let rest_is : c.into_iter-seat-iterator.result.rest.items ≡ c.args.seats.items = search rules in (
      none_yet (λ h. h.promise) (λ s. work_of c.args.load.now s.client) c.new-started.result.items _ c.args.seats.items
          c.new-started.ensures.items rest_is,
      subst (AreNew c.args.store.now.config) (sym rest_is) c.requires.new,
    )

pub start-requires-clause-new : goal.start-requires-clause-new
start-requires-clause-new g c κs within =
    let config = c.args.store.now.config in
    let seat = c.in-Some.seat in
    let name : c.work_of-work.result.caller ≡ seat.client =
    ap (λ w. w.caller) c.work_of-work.ensures ∙ c.get-caller.ensures.name ∙ c.client.ensures in
    subst (λ n. IsNewSeat config n seat) (sym name)
    (new_first config c.loop-seat.seat-iterator.rest.items c.next.new.self.rest.items seat c.loop-seat.invariant.1 c.in-Some.ensures.steps.0)

pub loop-seat-preserved : goal.loop-seat-preserved
loop-seat-preserved g c =
    let l = c.loop-seat in
    let rest = l.seat-iterator.rest.items in
    let left = c.next.new.self.rest.items in
    let step = c.in-Some.ensures.steps.0 in (
      more (λ h. h.promise) (λ s. work_of c.args.load.now s.client) l.started.items c.add.new.list.items c.in_ok-start.field-0
          c.in-Some.seat rest left _ l.invariant.0 step c.in_ok-add.ensures
          (c.in_ok-start.ensures.started ∙ c.work_of-work.ensures ∙ ap (work_of c.args.load.now) (c.get-caller.ensures.name ∙ c.client.ensures)),
      new_left c.args.store.now.config rest left c.in-Some.seat l.invariant.1 step,
    )
