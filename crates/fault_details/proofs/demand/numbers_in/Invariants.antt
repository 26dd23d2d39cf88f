use Rattle.std.proofs.Common.{◌≡◌, ◌++◌, drop, List, ℕ}
use Rattle.std.specs.Prelude.{option_map}
use Rattle.serde_json.specs.View.{items_view}
use Rattle.file_format.specs.Members.{numbers_in}
use Rattle.fault_details.proofs.demand.numbers_in.Given as goal

abbrev pub invariant-loop-item : goal.invariant-loop-item
invariant-loop-item l = numbers_in (items_view l.items)
    ≡ option_map (λ (rest : List ℕ). l.numbers.items ++ rest) (numbers_in (items_view (drop l.item-index l.items)))
