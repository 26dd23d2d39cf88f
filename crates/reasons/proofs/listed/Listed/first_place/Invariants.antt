use Rattle.std.proofs.Common.{ℕ, ◌<◌, ◌≡◌}
use Rattle.std.specs.List.{slice_get}
use Rattle.reasons.proofs.listed.Listed.first_place.Given as goal

abbrev pub invariant-loop-i : goal.invariant-loop-i
invariant-loop-i l = (m : ℕ) → m < l.i → slice_get l.self.order.now m ≡ slice_get l.self.order.now l.fn.place → ⊥
