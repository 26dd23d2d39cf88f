use Rattle.std.proofs.Common.{length, ◌-◌, ◌≤◌}
use Rattle.file_format.proofs.compact_lines.guessed_number.Given as goal

abbrev pub invariant-loop-count : goal.invariant-loop-count
invariant-loop-count l = l.count ≤ length l.bytes

abbrev pub decreases-loop-count : goal.decreases-loop-count
decreases-loop-count l = length l.bytes - l.count
