use Rattle.std.proofs.Common.{map, refl}
use Rattle.std.proofs.lemmas.List.{length-map}
use Rattle.seats.proofs.Matching.{log_from}
use Rattle.seats.proofs.comparing.is_log.Goals as goal

pub returns-then-are_invocations : goal.returns-then-are_invocations
returns-then-are_invocations c = λ true.
    log_from c.args.history.now.rows c.args.client (map (λ e. e.now) c.args.entries.now) _
    (length-map c.args.entries.now (λ e. e.now)) (c.if-are_invocations.ensures refl) (c.have_responses.ensures true)
