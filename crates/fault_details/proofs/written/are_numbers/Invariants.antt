use Rattle.std.proofs.Common.{◌≡◌, drop}
use Rattle.serde_json.specs.View.{items_view}
use Rattle.fault_details.specs.Written.{are_numbers}
use Rattle.fault_details.proofs.written.are_numbers.Given as goal

abbrev pub invariant-loop-item : goal.invariant-loop-item
invariant-loop-item l = are_numbers (items_view l.items) ≡ are_numbers (items_view (drop l.item-index l.items))
