use Rattle.std.proofs.Common.{◌≡◌, length}
use Rattle.file_format.proofs.OneRowMore.{AreBlank}
use Rattle.file_format.proofs.hall_histories.HallHistories.new.Given as goal

abbrev pub invariant-loop : goal.invariant-loop
invariant-loop l = record {
  long : length l.halls.items ≡ l.counter;
  blank : AreBlank l.halls.items;
}
