use Rattle.std.proofs.Common.{Some, ap, map, refl, ◌∙◌}
use Rattle.seats.proofs.Matching.{begun_next, mapped_at, passed_over}
use Rattle.seats.proofs.comparing.are_invocations.Goals as goal
use Rattle.seats.proofs.comparing.are_invocations.Goals.{then-begins+else-count-entries+else-entry-place+else-not-is_invocation, else-begins}

pub loop-place-preserved : goal.loop-place-preserved
loop-place-preserved c =
    let rows = c.args.history.now.rows in
    let log = map (λ e. e.now) c.args.entries.now in
    let l = c.loop-place in
    elim c.if-begins.branch [
      | then-begins+else-count-entries+else-entry-place+else-not-is_invocation w ↦
          let entry = w.index-entries-count.result in
          let next = mapped_at (λ e. e.now) c.args.entries.now l.count entry w.if-count-entries.false w.index-entries-count.is in
          rw w.count-is (begun_next rows c.args.client l.place log l.count entry.now l.invariant next w.if-entry-place.false (c.row-row.ensures ∙ ap Some (w.if-not-is_invocation.ensures refl)))
      | else-begins w ↦ rw w.count-is (passed_over rows c.args.client l.place log l.count c.row-row.result l.invariant c.row-row.ensures (w.if-begins.ensures refl))
    ]
