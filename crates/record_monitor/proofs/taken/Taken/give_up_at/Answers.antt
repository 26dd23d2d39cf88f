use Rattle.std.proofs.Common.{ℕ, List, ◌∷◌, length, sym, ◌∙◌, subst}
use Rattle.monitored_key.specs.Maps.{entry_at}
use Rattle.record_monitor.specs.Waiting.{AreWaiting}
use Rattle.record_monitor.proofs.Entries.{lacks_entry}
use Rattle.record_monitor.proofs.Finishing.{overdue}
use Rattle.record_monitor.proofs.Taking.{number_within}
use Rattle.record_monitor.proofs.Waits.{given_up_more, recent_less, waits_less}
use Rattle.record_monitor.proofs.taken.Taken.give_up_at.Goals as goal

pub give_up-requires : goal.give_up-requires
give_up-requires c =
    let old = c.args.self.now in
    let h = c.requires.2 in
    let w = h.knows.waiting.each c.args.begin c.in-Some.number (sym c.remove.ensures.value ∙ c.in-Some.is) in
    record { there = number_within old.give_up c.requires.0 c.requires.1 old.keys h.knows.keys c.in-Some.number w.key w.key_is }

pub returns-in-Some-clause-keys : goal.returns-in-Some-clause-keys
returns-in-Some-clause-keys c = λ rows gone formed e h.
    let old = c.args.self.now in
    let most = old.give_up in
    let w = h.knows.waiting.each c.args.begin c.in-Some.number (sym c.remove.ensures.value ∙ c.in-Some.is) in
    let lacks = lacks_entry old.reads c.remove.new.self c.args.begin c.remove.ensures.updates in (
      w.op.0 ∷ gone,
      record {
        knows = record {
          given_up = given_up_more most rows gone h.knows.given_up w.op
              (overdue most rows old.keys.numbers gone c.args.begin c.in-Some.number w e);
          keys = c.give_up.ensures.watched most rows gone w.key w.op w.client formed w.key_is w.begins w.pending w.stays h.knows.keys;
          waiting = subst (λ (ks : List (List ℕ)). AreWaiting rows ks (w.op.0 ∷ gone) (entry_at c.remove.new.self.entries))
              (sym c.give_up.ensures.numbers)
              (waits_less rows formed w.op w.client c.args.begin w.key w.begins old.keys.numbers gone (entry_at old.reads.entries)
              (entry_at c.remove.new.self.entries) h.knows.waiting lacks);
        };
        recent = recent_less rows formed w.op w.client c.args.begin w.key w.begins old.keys.numbers gone (entry_at old.reads.entries)
            (entry_at c.remove.new.self.entries) h.knows.waiting lacks most (length rows) h.recent e;
        at = h.at;
      },
    )
