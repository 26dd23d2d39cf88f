use Rattle.std.proofs.Common.{take}
use Rattle.command_line.specs.RunWords.{AreDigits}
use Rattle.command_line.proofs.quorums.votes_in.Given as goal

abbrev pub invariant-loop-byte : goal.invariant-loop-byte
invariant-loop-byte l = AreDigits (take l.byte-index l.text) l.votes.items
