use Rattle.std.proofs.Common.{◌≡◌, take}
use Rattle.key_index.specs.Marks.{digits_of}
use Rattle.key_index.proofs.marks.mark_of.Given as goal

abbrev pub invariant-loop-at : goal.invariant-loop-at
invariant-loop-at l = l.digits ≡ digits_of (take l.at l.key)
