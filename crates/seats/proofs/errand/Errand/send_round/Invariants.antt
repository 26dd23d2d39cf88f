use Rattle.std.proofs.Common.{length}
use Rattle.seats.specs.Calls.{KeepsLog}
use Rattle.seats.specs.Rounds.{AsksReplicas}
use Rattle.seats.proofs.errand.Errand.send_round.Given as goal

abbrev pub invariant-loop-number : goal.invariant-loop-number
invariant-loop-number g l = record {
  kept : KeepsLog l.fn.pass l.pass;
  asked : AsksReplicas (length l.self.transport.now.replicas.now) l.counted l.fn.pass l.number l.pass;
}
