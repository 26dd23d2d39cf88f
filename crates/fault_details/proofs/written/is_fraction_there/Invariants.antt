use Rattle.std.proofs.Common.{◌≡◌, drop}
use Rattle.serde_json.specs.View.{items_view}
use Rattle.fault_details.specs.Written.{is_fraction_there}
use Rattle.fault_details.proofs.written.is_fraction_there.Given as goal

abbrev pub invariant-loop-item : goal.invariant-loop-item
invariant-loop-item l = is_fraction_there (items_view l.items) ≡ is_fraction_there (items_view (drop l.item-index l.items))
