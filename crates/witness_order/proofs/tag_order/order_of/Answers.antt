use Rattle.std.proofs.Common.{◌≡◌, Err, ap, subst, sym}
use Rattle.tag.specs.declared.numbers.OpId.{OpId}
use Rattle.witness_order.specs.declared.error.WitnessError.TheVariants.{NoNote}
use Rattle.recorder.specs.Sound.{IsByTag}
use Rattle.witness_order.specs.Notes.{IsLeastUnnoted}
use Rattle.witness_order.proofs.Unnoted.{one_least, none_unnoted}
use Rattle.witness_order.proofs.ByKeys.{IsByTag-keys}
use Rattle.witness_order.proofs.SortedLists.{AreSorted-sort}
use Rattle.witness_order.proofs.tag_order.order_of.Goals as goal

pub returns-in-Some-clause-no_note : goal.returns-in-Some-clause-no_note
returns-in-Some-clause-no_note c =
    let part = c.args.part.now in
    let least = c.in-Some.ensures.first in
    λ op. (
      λ e. let same : c.in-Some.op ≡ op = cc in subst (λ (x : OpId). IsLeastUnnoted part x) same least,
      λ u. ap (λ (x : OpId). Err (NoNote x)) (one_least part c.in-Some.op op least u),
    )

pub returns-in-Ok-clause-order : goal.returns-in-Ok-clause-order
returns-in-Ok-clause-order c =
    let part = c.args.part.now in
    let noted = c.in_default.ensures.first in
    let by_keys = c.in-Ok.ensures in
    let sorted = AreSorted-sort part c.first_unnoted.ensures.sequence by_keys.keys by_keys.settled by_keys.sorted in
    subst (IsByTag part) (sym by_keys.numbers) (IsByTag-keys part c.first_unnoted.ensures.sequence noted by_keys.keys sorted)

pub returns-in-Ok-clause-no_note : goal.returns-in-Ok-clause-no_note
returns-in-Ok-clause-no_note c =
    let noted = c.in_default.ensures.first in
    λ op. (λ e. absurd (cc), λ u. absurd (none_unnoted c.args.part.now op noted u))

pub returns-in-Err-clause-no_note : goal.returns-in-Err-clause-no_note
returns-in-Err-clause-no_note c =
    let noted = c.in_default.ensures.first in
    λ op. (λ e. absurd (cc), λ u. absurd (none_unnoted c.args.part.now op noted u))
