use Rattle.std.proofs.lemmas.Result.{on_ok_weaker}
use Rattle.record_monitor.proofs.PlacedCalls.{told_set}
use Rattle.record_monitor.proofs.key_calls.KeyCalls.begin.Goals as goal

pub returns-then-call-clause-knows : goal.returns-then-call-clause-knows
returns-then-call-clause-knows c =
    on_ok_weaker c.put.result (λ s rows key k t. record {
      writes = told_set rows key c.args.self.now.writes c.put.new.self c.args.call.now s t k.writes;
      notes = k.notes;
      answered = k.answered;
      first = k.first;
    }) c.put.ensures
