use Rattle.std.proofs.Common.{◌≡◌, ◌++◌, drop, List, ℕ}
use Rattle.std.specs.Prelude.{option_map}
use Rattle.json.specs.Value.{items_view}
use Rattle.file_format.specs.Trees.{all_unsigned}
use Rattle.file_format.proofs.document.numbers_in.Given as goal

abbrev pub invariant-loop-item : goal.invariant-loop-item
invariant-loop-item l = all_unsigned (items_view l.items)
    ≡ option_map (λ (rest : List ℕ). l.numbers.items ++ rest) (all_unsigned (items_view (drop l.item-index l.items)))
