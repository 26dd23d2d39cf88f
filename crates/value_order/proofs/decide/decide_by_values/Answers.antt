use Rattle.std.proofs.Common.{subst}
use Rattle.value_order.specs.declared.decision.ValueVerdict.TheVariants as verdict
use Rattle.value_order.specs.Found.{AreApart, IsFound}
use Rattle.value_order.proofs.Decided.{apart_ordered, exact_verdict}
use Rattle.value_order.proofs.decide.decide_by_values.Goals as goal
use Rattle.value_order.proofs.decide.decide_by_values.Goals.{in-Atomic, in-NotAtomic, in-Undecided}

pub returns-clause-verdict : goal.returns-clause-verdict
returns-clause-verdict c =
    let part = c.args.part.now in
    elim c.match-branch-2.branch [
      | in-Atomic w ↦ rw w.result-is (apart_ordered part c.attest.ensures w.in-Atomic.field-0 (subst (IsFound part) w.in-Atomic.is c.in_ok-fault.ensures))
      | in-NotAtomic w ↦ rw w.result-is (subst (IsFound part) w.in-NotAtomic.is c.in_ok-fault.ensures)
      | in-Undecided w ↦ rw w.result-is (subst (IsFound part) w.in-Undecided.is c.in_ok-fault.ensures)
    ]

pub returns-clause-exact : goal.returns-clause-exact
returns-clause-exact c =
    let part = c.args.part.now in
    elim c.match-branch-2.branch [
      | in-Atomic w ↦ rw w.result-is (exact_verdict part c.attest.ensures verdict.Atomic (apart_ordered part c.attest.ensures w.in-Atomic.field-0 (subst (IsFound part) w.in-Atomic.is c.in_ok-fault.ensures)))
      | in-NotAtomic w ↦ rw w.result-is (exact_verdict part c.attest.ensures (verdict.NotAtomic w.in-NotAtomic.fault) (subst (IsFound part) w.in-NotAtomic.is c.in_ok-fault.ensures))
      | in-Undecided w ↦ rw w.result-is (exact_verdict part c.attest.ensures (verdict.Undecided w.in-Undecided.doubt) (subst (IsFound part) w.in-Undecided.is c.in_ok-fault.ensures))
    ]

pub returns-clause-sure : goal.returns-clause-sure
returns-clause-sure c =
    let part = c.args.part.now in
    elim c.match-branch-2.branch [
      | in-Atomic w ↦ let are : AreApart part w.in-Atomic.field-0 = subst (IsFound part) w.in-Atomic.is c.in_ok-fault.ensures in rw w.result-is are.sure
      | in-NotAtomic w ↦ rw w.result-is tt
      | in-Undecided w ↦ rw w.result-is tt
    ]
