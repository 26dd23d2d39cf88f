use Rattle.std.proofs.Common.{ℕ, List, sym, subst}
use Rattle.std.proofs.lemmas.Result.{on_ok_weaker}
use Rattle.monitored_key.specs.Maps.{entry_at}
use Rattle.record_monitor.specs.Waiting.{AreWaiting}
use Rattle.record_monitor.proofs.taken.Taken.keep_note.Goals as goal

pub returns-clause-keys : goal.returns-clause-keys
returns-clause-keys c = on_ok_weaker c.note.result (λ watched rows gone place has k.
    let old = c.args.self.now in
    record {
      knows = record {
        given_up = k.knows.given_up;
        keys = watched old.give_up rows gone has k.knows.keys;
        waiting = subst (λ (ks : List (List ℕ)). AreWaiting rows ks gone (entry_at old.reads.entries)) (sym c.note.ensures.numbers)
            k.knows.waiting;
      };
      recent = k.recent;
      at = k.at;
    }) c.note.ensures.watched
