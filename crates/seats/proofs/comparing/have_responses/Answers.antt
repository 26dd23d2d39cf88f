use Rattle.std.proofs.Common.{map, refl, arith}
use Rattle.seats.proofs.Matching.{mapped_at, responds_next}
use Rattle.seats.proofs.comparing.have_responses.Goals as goal

pub loop-entry-preserved : goal.loop-entry-preserved
loop-entry-preserved c =
    let l = c.loop-entry in
    responds_next c.args.history.now.rows (map (λ e. e.now) c.args.entries.now) l.entry-index c.entry-item.result.now l.invariant
    (mapped_at (λ e. e.now) c.args.entries.now l.entry-index c.entry-item.result c.loop-entry-test.true c.entry-item.is)
    (c.if-not-has_response.ensures refl)

pub returns : goal.returns
returns c = λ _ k entry lt at. c.loop-entry.invariant k entry (let h = c.loop-entry-test.false in omega arith) at
