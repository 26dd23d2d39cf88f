use Rattle.std.proofs.Common.{subst}
use Rattle.value_order.specs.declared.decision.Decision.TheVariants as decision
use Rattle.value_order.specs.Found.{AreApart, IsFound}
use Rattle.value_order.proofs.Decided.{exact, family_order, have_zones, apart_decision}
use Rattle.value_order.proofs.decide.order_by_values.Goals as goal

pub sorted_order-requires-clause-zones : goal.sorted_order-requires-clause-zones
sorted_order-requires-clause-zones c =
    let part = c.args.part.now in
    let families = c.in-Atomic.families in
    let are : AreApart part families = subst (IsFound part) c.in-Atomic.is c.in_ok-families.ensures in
    rw (c.as_slice.ensures.value, c.as_slice-in-Atomic.ensures.value) (have_zones part families.sources.items are.sources are.row families.zones.items are.zones)

pub returns-in_ok-sorted_order-in-Atomic-clause-decision : goal.returns-in_ok-sorted_order-in-Atomic-clause-decision
returns-in_ok-sorted_order-in-Atomic-clause-decision c =
    let part = c.args.part.now in
    let families = c.in-Atomic.families in
    let are : AreApart part families = subst (IsFound part) c.in-Atomic.is c.in_ok-families.ensures in
    let by = rw c.as_slice-in-Atomic.ensures.value at c.in_ok-sorted_order-in-Atomic.ensures in
    apart_decision part c.attest.ensures families are c.in_ok-sorted_order-in-Atomic.field-0 by

pub returns-in_ok-sorted_order-in-Atomic-clause-exact : goal.returns-in_ok-sorted_order-in-Atomic-clause-exact
returns-in_ok-sorted_order-in-Atomic-clause-exact c =
    let part = c.args.part.now in
    let families = c.in-Atomic.families in
    let are : AreApart part families = subst (IsFound part) c.in-Atomic.is c.in_ok-families.ensures in
    let by = rw c.as_slice-in-Atomic.ensures.value at c.in_ok-sorted_order-in-Atomic.ensures in
    let order = c.in_ok-sorted_order-in-Atomic.field-0 in
    exact part c.attest.ensures (decision.Atomic order) (apart_decision part c.attest.ensures families are order by)

pub returns-in-NotAtomic-clause-exact : goal.returns-in-NotAtomic-clause-exact
returns-in-NotAtomic-clause-exact c = exact c.args.part.now c.attest.ensures (decision.NotAtomic c.in-NotAtomic.fault) (subst (IsFound c.args.part.now) c.in-NotAtomic.is c.in_ok-families.ensures)

pub returns-in-Undecided-clause-exact : goal.returns-in-Undecided-clause-exact
returns-in-Undecided-clause-exact c = exact c.args.part.now c.attest.ensures (decision.Undecided c.in-Undecided.doubt) (subst (IsFound c.args.part.now) c.in-Undecided.is c.in_ok-families.ensures)

pub returns-in_ok-sorted_order-in-Atomic-clause-families : goal.returns-in_ok-sorted_order-in-Atomic-clause-families
returns-in_ok-sorted_order-in-Atomic-clause-families c =
    let part = c.args.part.now in
    let families = c.in-Atomic.families in
    let are : AreApart part families = subst (IsFound part) c.in-Atomic.is c.in_ok-families.ensures in
    let by = rw c.as_slice-in-Atomic.ensures.value at c.in_ok-sorted_order-in-Atomic.ensures in
    family_order part families are c.in_ok-sorted_order-in-Atomic.field-0 by
