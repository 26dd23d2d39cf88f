use Rattle.std.proofs.Common.{refl, ap, ◌∙◌}
use Rattle.recorder.specs.Logs.{of_hall}
use Rattle.node_threads.proofs.Showing.{shown_by}
use Rattle.node_threads.proofs.snapshot.snapshot_of.Goals as goal

pub returns : goal.returns
returns g c = shown_by c.steps_keep_a_system_sound.ensures.parts (λ e. e.now) _ c.in_ok-history.history c.args.seat.now c.args.hall _ _ _
    c.in_ok-entries.entries.items _ _
    c.in_ok-history.ensures.copied c.row_count.ensures.count c.seen.ensures c.if-row_count-seen.false c.log.ensures.log
    (c.in_ok-entries.ensures ∙ ap (λ n. of_hall n c.log.result.now) c.from-at.ensures) c.deref.ensures.value c.client.ensures
    (c.if-not-is_log.ensures refl)
