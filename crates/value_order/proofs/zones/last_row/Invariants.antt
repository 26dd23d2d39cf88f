use Rattle.std.proofs.Common.{ℕ, ◌<◌, ◌≤◌, ◌≡◌, Some}
use Rattle.std.specs.List.{slice_get}
use Rattle.recorder.specs.declared.part.Call.{Call}
use Rattle.recorder.specs.declared.part.Response.{Response}
use Rattle.value_order.proofs.zones.last_row.Given as goal

abbrev pub invariant-loop-i : goal.invariant-loop-i
invariant-loop-i l = (j : ℕ) (call : Call) (response : Response) → j < l.i → slice_get l.part j ≡ Some call → call.response ≡ Some response → response.place ≤ l.last
