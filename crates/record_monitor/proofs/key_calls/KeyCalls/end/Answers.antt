use Rattle.std.proofs.Common.{All, sym, subst}
use Rattle.std.proofs.lemmas.List.Elements.{All-push}
use Rattle.std.proofs.lemmas.Result.{on_ok_weaker}
use Rattle.record_monitor.specs.Told.{IsToldCall}
use Rattle.record_monitor.proofs.key_calls.KeyCalls.end.Goals as goal

pub returns-clause-knows : goal.returns-clause-knows
returns-clause-knows c = on_ok_weaker c.show.result (λ more rows key k t.
    let told = IsToldCall rows key in
    more rows key (record {
      writes = k.writes;
      notes = k.notes;
      answered = subst (All told) (sym c.in_ok-add.ensures) (All-push told c.args.self.now.answered.items c.args.call.now k.answered t);
      first = k.first;
    }) t) c.show.ensures.knows
