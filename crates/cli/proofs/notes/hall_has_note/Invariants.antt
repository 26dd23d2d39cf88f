use Rattle.std.proofs.Common.{◌≡◌, false, take}
use Rattle.std.specs.List.{list_any}
use Rattle.cli.specs.Hints.{has_note}
use Rattle.cli.specs.Justifications.{KeyPart}
use Rattle.cli.proofs.notes.hall_has_note.Given as goal

abbrev pub invariant-loop-place : goal.invariant-loop-place
invariant-loop-place l = list_any (λ (entry : KeyPart). has_note entry.1) (take l.place l.own.entries) ≡ false
