use Rattle.std.proofs.Common.{refl, arith}
use Rattle.row_members.proofs.Reading.{first_read, more_read, all_read}
use Rattle.row_members.proofs.row_members.RowMembers.read.Goals as goal

pub loop-next-init : goal.loop-next-init
loop-next-init c =
    let read = first_read c.args.line.now _ c.in_ok-at.at c.in_ok-at-2.at _ _ refl c.in-Ok.ensures.cases.0 c.in_ok-at.ensures
    c.in_ok-at-2.ensures in
    record { within = read.within; read = read }

pub loop-next-preserved : goal.loop-next-preserved
loop-next-preserved c =
    let read = more_read c.args.line.now _ c.loop-next.at c.in-Some.next c.in_ok-at-3.at _ _ c.loop-next.invariant.read
    c.in-Ok.ensures.cases.0 c.in-Some.ensures c.in_ok-at-3.ensures in
    record { within = read.within; read = read }

pub invariant_of-result : goal.invariant_of-result
invariant_of-result c =
    all_read c.args.line.now c.loop-next.at c.in_ok-end.end c.after_space.result c.loop-next.members c.in-Ok.ensures.cases.1
    c.loop-next.invariant.read c.in_ok-end.ensures c.after_space.ensures (omega arith)

pub returns : goal.returns
returns c = (
  refl,
  (all_read c.args.line.now c.loop-next.at c.in_ok-end.end c.after_space.result c.loop-next.members c.in-Ok.ensures.cases.1
      c.loop-next.invariant.read c.in_ok-end.ensures c.after_space.ensures (omega arith)).json,
)
