use Rattle.std.proofs.Common.{◌≡◌, ◌==◌, false, take}
use Rattle.std.specs.List.{list_any}
use Rattle.recorder.specs.declared.part.Call.{Call}
use Rattle.draw_command.proofs.showing.has_call.Given as goal

abbrev pub invariant-loop-place : goal.invariant-loop-place
invariant-loop-place l = list_any (λ (call : Call). call.op.0 == l.number) (take l.place l.part) ≡ false
