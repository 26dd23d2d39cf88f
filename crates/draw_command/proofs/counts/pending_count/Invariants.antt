use Rattle.std.proofs.Common.{◌≡◌, count_by, is_none, take}
use Rattle.recorder.specs.declared.part.Call.{Call}
use Rattle.draw_command.proofs.counts.pending_count.Given as goal

abbrev pub invariant-loop-place : goal.invariant-loop-place
invariant-loop-place l = l.pending ≡ count_by (λ (call : Call). is_none call.response) (take l.place l.part)
