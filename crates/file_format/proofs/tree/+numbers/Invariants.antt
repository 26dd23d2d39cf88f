use Rattle.std.proofs.Common.{◌≡◌, drop, length}
use Rattle.json.specs.Tree.{json_tokens, items_tokens, members_tokens}
use Rattle.json.specs.Value.{value_view, items_view, members_view}
use Rattle.file_format.specs.Trees.{items_have_numbers, members_have_numbers}
use Rattle.file_format.proofs.tree.+numbers.Given as goal

abbrev pub decreases-has_numbers : goal.decreases-has_numbers
decreases-has_numbers l = length (json_tokens (value_view l.value.now))

abbrev pub decreases-items_have_numbers : goal.decreases-items_have_numbers
decreases-items_have_numbers l = length (items_tokens (items_view l.items.now.items))

abbrev pub decreases-members_have_numbers : goal.decreases-members_have_numbers
decreases-members_have_numbers l = length (members_tokens (members_view l.members.now.items))

abbrev pub invariant-items_have_numbers-loop-item : goal.invariant-items_have_numbers-loop-item
invariant-items_have_numbers-loop-item l = items_have_numbers (items_view l.item-items)
    ≡ items_have_numbers (items_view (drop l.item-index l.item-items))

abbrev pub invariant-members_have_numbers-loop-member : goal.invariant-members_have_numbers-loop-member
invariant-members_have_numbers-loop-member l = members_have_numbers (members_view l.member-items)
    ≡ members_have_numbers (members_view (drop l.member-index l.member-items))
