use Rattle.std.proofs.Common.{Some, slice_get, sym, ap, ◌∙◌}
use Rattle.recorder.specs.declared.row.Row.TheVariants.{Respond}
use Rattle.seats.proofs.Matching.{has_that}
use Rattle.seats.proofs.comparing.has_response.Goals as goal

pub returns-then-place-row_count : goal.returns-then-place-row_count
returns-then-place-row_count c = λ true.
    has_that c.args.history.now.rows c.row_count.ensures.formed c.args.entry.now c.in-Some.response c.in-Some.is
    (ap (slice_get c.args.history.now.rows) (sym c.place-place.ensures) ∙ c.row.ensures ∙ ap Some (c.is_response.ensures true ∙ ap (Respond c.args.entry.now.op) c.returned.ensures))
