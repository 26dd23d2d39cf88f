use Rattle.std.proofs.Common.{◌≤◌, ◌-◌, length}
use Rattle.row_members.proofs.Reading.{IsReadTo}
use Rattle.row_members.proofs.row_members.RowMembers.read.Given as goal

abbrev pub invariant-loop-next : goal.invariant-loop-next
invariant-loop-next l = record {
  within : l.at ≤ length l.line;
  read : IsReadTo l.line l.at l.members;
}

abbrev pub decreases-loop-next : goal.decreases-loop-next
decreases-loop-next l = length l.line - l.at
