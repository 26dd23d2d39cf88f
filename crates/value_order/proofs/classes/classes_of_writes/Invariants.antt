use Rattle.std.proofs.Common.{ℕ, ◌≡◌, Some, length}
use Rattle.std.specs.List.{slice_get}
use Rattle.recorder.specs.declared.part.Call.{Call}
use Rattle.value_order.specs.declared.classes.Class.{Class}
use Rattle.value_order.specs.declared.placed.Places.{Places}
use Rattle.value_order.specs.Classes.{IsWriteClass}
use Rattle.value_order.specs.Firsts.{AreFirsts}
use Rattle.value_order.specs.Placed.{ArePlacesOf}
use Rattle.value_order.proofs.classes.classes_of_writes.Given as goal

abbrev pub invariant-loop-i : goal.invariant-loop-i
invariant-loop-i l = record {
  many_places : length l.places.items ≡ l.i;
  places : (k : ℕ) (call : Call) (own : Places) → slice_get l.part k ≡ Some call → slice_get l.places.items k ≡ Some own → ArePlacesOf call own;
  many_classes : length l.classes.items ≡ l.i;
  classes : (k : ℕ) (own : Class) → slice_get l.classes.items k ≡ Some own → IsWriteClass l.part k own;
  firsts : AreFirsts l.part l.i l.firsts.slots.items l.firsts.others;
}
