use Rattle.std.proofs.Common.{◌≡◌, ◌≤◌, ◌+◌, drop}
use Rattle.fault_details.specs.Needed.{together}
use Rattle.fault_details.proofs.demands.together.Given as goal

abbrev pub invariant-loop-vote : goal.invariant-loop-vote
invariant-loop-vote l = record {
  value : l.all + together (drop l.vote-index l.votes) ≡ together l.votes;
  few : together l.votes ≤ 135;
}
