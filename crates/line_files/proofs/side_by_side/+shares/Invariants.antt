use Prim.Native.Nat.{◌+◌, ◌*◌, ◌-◌}
use Rattle.line_files.proofs.side_by_side.+shares.Given as goal

abbrev pub decreases-judge_shares : goal.decreases-judge_shares
decreases-judge_shares g l = 2 * l.threads

abbrev pub decreases-back : goal.decreases-back
decreases-back g l = 2 * (l.threads - 1) + 1
