use Rattle.std.proofs.Common.{◌≡◌, take}
use Rattle.std.specs.List.{fold}
use Rattle.value_explanations.specs.ValueSentences.{with_call}
use Rattle.value_explanations.proofs.call_lists.append_list.Given as goal

abbrev pub invariant-loop-other : goal.invariant-loop-other
invariant-loop-other l = l.text.items ≡ fold with_call l.initial.text.items (take l.other-index l.others)
