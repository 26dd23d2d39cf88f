use Rattle.std.proofs.Common.{Option, List, ◌≡◌, refl, sym, subst, ap, ◌∙◌}
use Rattle.quorum.specs.Quorums.{Quorums}
use Rattle.recorder.specs.Halls.{AreHalls}
use Rattle.recorder.specs.Histories.{Recorded}
use Rattle.parallel_keys.specs.CheckedKeys.{AreDistinct}
use Rattle.run_command.specs.Records.{quorums_in, record_of}
use Rattle.run_command.proofs.Distinct.{joined_distinct}
use Rattle.run_command.proofs.join_halls.closed_record.Goals as goal

-- the histories are those of a row of halls, so no two orders are of one key
pub returns-in-Some-clause-distinct : goal.returns-in-Some-clause-distinct
returns-in-Some-clause-distinct c =
    let quorums : c.quorums_of-quorums.result ≡ quorums_in c.args.halls.items = c.quorums_of-quorums.ensures ∙ ap quorums_in c.as_slice-2.ensures.value in
    let are : AreHalls (record_of c.args.halls.items) =
    subst (λ (y : List Recorded × Option Quorums). AreHalls (record { halls = y.0; quorums = y.1 })) (λ i. (c.in_ok-histories.ensures.histories i, quorums i)) (c.in-Some.ensures.some.0 refl) in
    subst AreDistinct (sym c.in_ok-histories.ensures.orders) (joined_distinct c.args.halls.items c.requires are)
