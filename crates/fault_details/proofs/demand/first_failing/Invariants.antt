use Rattle.std.proofs.Common.{◌≡◌, drop}
use Rattle.serde_json.specs.View.{view}
use Rattle.fault_details.specs.Demands.{first_failing}
use Rattle.fault_details.proofs.demand.first_failing.Given as goal

abbrev pub invariant-loop-demand : goal.invariant-loop-demand
invariant-loop-demand l = first_failing l.test (view l.value) l.demands
    ≡ first_failing l.test (view l.value) (drop l.demand-index l.demands)
