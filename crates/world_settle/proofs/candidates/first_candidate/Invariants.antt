use Rattle.std.proofs.Common.{◌≡◌, ℕ, ◌<◌, false}
use Rattle.world_settle.specs.Settling.{is_candidate}
use Rattle.world_settle.proofs.candidates.first_candidate.Given as goal

-- no number so far is that of a candidate
abbrev pub invariant-loop-number : goal.invariant-loop-number
invariant-loop-number l = (m : ℕ) → m < l.number → is_candidate l.world l.set m ≡ false
