use Rattle.std.proofs.Common.{ℕ, ◌<◌, ◌≤◌, ◌-◌, ◌≡◌, Some}
use Rattle.std.specs.List.{slice_get}
use Rattle.recorder.specs.declared.part.Call.{Call}
use Rattle.tag_check.proofs.notes.Notes.begun_within.Given as goal

abbrev pub invariant-halves : goal.invariant-halves
invariant-halves l = record {
  order : l.low ≤ l.high;
  inside : l.high ≤ l.fn.high;
  begun : (j : ℕ) (call : Call) → j < l.low → l.fn.low ≤ j → slice_get l.self.part.now j ≡ Some call → call.invoked ≤ l.place;
  later : (j : ℕ) (call : Call) → l.high ≤ j → j < l.fn.high → slice_get l.self.part.now j ≡ Some call → l.place < call.invoked;
}

abbrev pub decreases-halves : goal.decreases-halves
decreases-halves l = l.high - l.low
