use Rattle.std.proofs.Common.{◌≡◌, ◌+◌, arith, rules, subst}
use Rattle.node_threads.specs.Joins.{IsNewSeat}
use Rattle.load_run.proofs.Seating.{seated_more}
use Rattle.load_run.proofs.callers.join_all.Goals as goal

pub loop-number-preserved : goal.loop-number-preserved
loop-number-preserved g c =
    let seat = c.in_ok-join.field-0 in
    let name : c.in-Ok.client ≡ c.loop-number.number + 1 = search rules in (
      seated_more c.args.store.now.config c.loop-number.number c.loop-number.seats.items c.add.new.list.items seat c.loop-number.invariant.0
          (subst (λ n. IsNewSeat c.args.store.now.config n seat) name c.in_ok-join.ensures.seat)
          c.in_ok-add.ensures,
      (let test = c.loop-number-test.true in omega (arith, test)),
    )
