-- The list of all calls is that of the history.
use Rattle.std.proofs.Common.{subst}
use Rattle.recorder.specs.Histories.{Recorded}
use Rattle.recorder.specs.Records.{AreParts}
use Rattle.whole_pictures.proofs.section.draw_hall.Goals as goal

pub draw_calls-requires-clause-calls : goal.draw_calls-requires-clause-calls
draw_calls-requires-clause-calls c =
    c.all_calls-calls.ensures c.args.hall.history.now
    (subst (λ (made : Recorded). AreParts made.rows c.in_ok-parts.parts.entries) c.in_ok-merged.ensures c.in_ok-parts.ensures)
