use Rattle.std.proofs.Common.{◌≡◌, take}
use Rattle.file_format.proofs.quorum_header.small.Given as goal

abbrev pub invariant-loop-votes : goal.invariant-loop-votes
invariant-loop-votes l = l.small.items ≡ take l.votes-index l.votes
