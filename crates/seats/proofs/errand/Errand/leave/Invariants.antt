use Rattle.std.proofs.Common.{◌≡◌, ◌≤◌, length}
use Rattle.seats.specs.Calls.{KeepsLog}
use Rattle.seats.specs.Rounds.{MakesRounds}
use Rattle.seats.proofs.errand.Errand.leave.Given as goal

abbrev pub invariant-loop : goal.invariant-loop
invariant-loop g l = record {
  kept : KeepsLog l.fn.pass l.pass;
  made : MakesRounds (length l.self.transport.now.replicas.now) l.fn.pass l.counter l.counted l.pass;
  most : l.counter ≤ l.end;
  end : l.end ≡ l.self.transport.now.rounds;
}
