use Rattle.std.proofs.Common.{ℕ, ◌≡◌, ◌-◌, length}
use Rattle.open_calls.specs.Numbered.{slot_of}
use Rattle.open_calls.proofs.slots.make.Given as goal

abbrev pub invariant-loop-slots : goal.invariant-loop-slots
invariant-loop-slots g l = (place : ℕ) → slot_of l.slots.items place ≡ slot_of l.fn.slots.items place

abbrev pub decreases-loop-slots : goal.decreases-loop-slots
decreases-loop-slots g l = 64 - length l.slots.items
