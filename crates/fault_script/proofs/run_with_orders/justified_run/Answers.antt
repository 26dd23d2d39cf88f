use Rattle.std.proofs.Common.{rules, subst}
use Rattle.recorder.specs.Histories.{Recorded}
use Rattle.recorder.specs.Records.{IsPart}
use Rattle.fault_script.proofs.run_with_orders.justified_run.Goals as goal

pub justified_orders-requires : goal.justified_orders-requires
justified_orders-requires c = λ key part is.
    let h = c.into_history-history in
    h.ensures.parts key part (subst (λ (r : Recorded). IsPart r.rows key part) h.ensures.history is)

pub returns-clause-history : goal.returns-clause-history
returns-clause-history c = search rules

pub returns-clause-store : goal.returns-clause-store
returns-clause-store c =
    c.justified_records_are_of_a_linearizable_store.ensures c.into_history-history.result.rows c.in_ok-orders.orders.items
    c.row_count-formed.ensures.formed c.in_ok-orders.ensures
