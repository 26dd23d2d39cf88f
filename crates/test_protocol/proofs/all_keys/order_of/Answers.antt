use Rattle.std.proofs.Common.{subst}
use Rattle.recorder.specs.Histories.{Recorded}
use Rattle.recorder.specs.Records.{IsPart}
use Rattle.test_protocol.proofs.all_keys.order_of.Goals as goal

pub justified_orders-requires : goal.justified_orders-requires
justified_orders-requires c = λ key part is.
    let h = c.history-history in
    h.ensures.parts key part (subst (λ (r : Recorded). IsPart r.rows key part) h.ensures.history is)
