use Rattle.std.proofs.Common.{◌≡◌, map, take}
use Rattle.recorder.specs.declared.part.Call.{Call}
use Rattle.draw_command.proofs.counts.clients_of.Given as goal

abbrev pub invariant-loop-place : goal.invariant-loop-place
invariant-loop-place l = l.clients.items ≡ map (λ (call : Call). call.client) (take l.place l.part)
