use Rattle.std.proofs.Common.{◌≡◌, ◌<◌, List, Some, length, ◌∙◌, ap, subst, arith}
use Rattle.std.specs.List.{slice_get}
use Rattle.std.proofs.lemmas.List.{length-replicate}
use Rattle.value_order.specs.declared.firsts.Slot.{Slot}
use Rattle.std.proofs.lemmas.Nat.{pow_pos}
use Rattle.value_order.proofs.KnownFirsts.{firsts_none, all_free}
use Rattle.value_order.proofs.firsts.Firsts.new.Goals as goal

pub returns : goal.returns
returns c part =
    let free : Slot = record { mark = 0; index = 0 } in
    let slots = c.in_ok-vec.field-0.items in
    let count = c.next_power_of_two-count in
    let items = c.in_ok-vec.ensures.items_if_clones_equal (λ y same. same) in
    let some : 0 < count.result = omega (arith, pow_pos count.ensures.power.0, count.ensures.power.1) in
    let long : length slots ≡ count.result = ap (λ (l : List Slot). length l) items ∙ length-replicate count.result free in
    firsts_none part slots c.new.result (omega (arith, some, long)) (λ at slot is. ap (λ (s : Slot). s.mark) (all_free count.result free at slot (subst (λ (l : List Slot). slice_get l at ≡ Some slot) items is))) c.new.ensures.empty
