use Rattle.std.proofs.Common.{◌≡◌, false, is_some, take}
use Rattle.std.specs.List.{list_any}
use Rattle.recorder.specs.declared.part.Call.{Call}
use Rattle.cli.proofs.notes.has_note.Given as goal

abbrev pub invariant-loop-place : goal.invariant-loop-place
invariant-loop-place l = list_any (λ (call : Call). is_some call.note) (take l.place l.part) ≡ false
