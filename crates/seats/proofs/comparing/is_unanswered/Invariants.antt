use Rattle.std.proofs.Common.{ℕ, ◌<◌}
use Rattle.tag.specs.declared.actions.Returned.{Returned}
use Rattle.recorder.specs.declared.row.Row.TheVariants.{Respond}
use Rattle.world_steps.specs.Sound.{At}
use Rattle.seats.proofs.comparing.is_unanswered.Given as goal

abbrev pub invariant-loop-place : goal.invariant-loop-place
invariant-loop-place l = (k : ℕ) (returned : Returned) → k < l.place → At l.history.rows k (Respond l.op returned) → ⊥
