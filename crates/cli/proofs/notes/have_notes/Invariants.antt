use Rattle.std.proofs.Common.{◌≡◌, false, map, take}
use Rattle.parallel_keys.specs.CheckedKeys.{all_parts}
use Rattle.cli.specs.Hints.{have_notes}
use Rattle.cli.proofs.notes.have_notes.Given as goal

abbrev pub invariant-loop-own : goal.invariant-loop-own
invariant-loop-own l = have_notes (all_parts (map (λ p. p.entries) (take l.own-index l.parts))) ≡ false
