use Rattle.std.proofs.Common.{◌≡◌, ◌≤◌, length}
use Rattle.seats.specs.Seats.{AreZero}
use Rattle.node_threads.proofs.join.none_seen.Given as goal

abbrev pub invariant-loop : goal.invariant-loop
invariant-loop l = record { count : length l.seen.items ≡ l.counter; most : l.counter ≤ l.halls; zero : AreZero l.seen.items }
