use Rattle.std.proofs.Common.{ℕ, [], ◌∷◌, ◌++◌, length, sym, subst, refl}
use Rattle.tag.specs.declared.actions.Action.{Action}
use Rattle.recorder.specs.declared.row.Row.TheVariants.{Invoke}
use Rattle.monitored_key.specs.Maps.{entry_at, Sets}
use Rattle.record_monitor.specs.Waiting.{AreWaiting}
use Rattle.record_monitor.proofs.Entries.{sets_entry}
use Rattle.record_monitor.proofs.Finishing.{recent_more}
use Rattle.record_monitor.proofs.Taking.{next_of, numbered_of}
use Rattle.record_monitor.proofs.Waits.{fresh_stays, given_up_on, reads_of, waits_read_begun, waits_write_begun}
use Rattle.record_monitor.proofs.taken.Taken.begin.Goals as goal

pub begin-requires-clause-next : goal.begin-requires-clause-next
begin-requires-clause-next c = λ w at.
    let old = c.args.self.now in
    let m = c.requires.may in
    next_of old.give_up m.rows m.gone old.keys m.keeps.knows.keys c.args.number w at old.place (sym m.keeps.at)

pub begin-requires-clause-numbered : goal.begin-requires-clause-numbered
begin-requires-clause-numbered c = λ w at.
    let old = c.args.self.now in
    let m = c.requires.may in
    numbered_of old.give_up m.rows m.gone old.keys m.keeps.knows.keys c.args.number w at c.args.call.now.op.0 m.may.0

pub returns-in_ok-insert-in-None-clause-keys : goal.returns-in_ok-insert-in-None-clause-keys
returns-in_ok-insert-in-None-clause-keys c = λ rows gone formed may k.
    let old = c.args.self.now in
    let most = old.give_up in
    let op = c.args.call.now.op in
    let client = c.args.call.now.client in
    let row = Invoke op client c.args.key.now c.args.action.now in
    let up = k.knows.given_up in
    let sets = subst (λ (p : ℕ). Sets (entry_at old.reads.entries) p c.args.number (entry_at c.insert.new.self.entries)) k.at
    (sets_entry old.reads c.insert.new.self old.place c.args.number c.in_ok-insert-in-None.ensures.updates) in
    record {
      knows = record {
        given_up = given_up_on most rows row gone up;
        keys = c.in_ok-begin.ensures.watched most rows gone formed (sym k.at) may (reads_of most rows gone up) k.knows.keys;
        waiting = subst (λ (a : Action). AreWaiting (rows ++ Invoke op client c.args.key.now a ∷ []) c.begin.new.self.numbers gone
            (entry_at c.insert.new.self.entries)) (sym c.in-None.ensures.read)
            (waits_read_begun rows formed op client c.args.key.now old.keys.numbers c.begin.new.self.numbers gone
            (entry_at old.reads.entries) (entry_at c.insert.new.self.entries) k.knows.waiting c.in_ok-begin.ensures.stay c.args.number
            c.in_ok-begin.ensures.here may.0 (fresh_stays most rows gone formed up op may.0) sets);
      };
      recent = recent_more most (length rows) c.args.number (entry_at old.reads.entries) (entry_at c.insert.new.self.entries) k.recent sets;
      at = k.at;
    }

pub returns-in-Some-clause-keys : goal.returns-in-Some-clause-keys
returns-in-Some-clause-keys c = λ rows gone formed may k.
    let old = c.args.self.now in
    let most = old.give_up in
    let op = c.args.call.now.op in
    let client = c.args.call.now.client in
    let row = Invoke op client c.args.key.now c.args.action.now in
    let up = k.knows.given_up in
    record {
      knows = record {
        given_up = given_up_on most rows row gone up;
        keys = c.in_ok-begin.ensures.watched most rows gone formed (sym k.at) may (reads_of most rows gone up) k.knows.keys;
        waiting = subst (λ (a : Action). AreWaiting (rows ++ Invoke op client c.args.key.now a ∷ []) c.begin.new.self.numbers gone
            (entry_at old.reads.entries)) (sym c.in-Some.ensures.write)
            (waits_write_begun rows formed op client c.args.key.now old.keys.numbers c.begin.new.self.numbers gone
            (entry_at old.reads.entries) (entry_at old.reads.entries) k.knows.waiting c.in_ok-begin.ensures.stay _ (λ begin. refl));
      };
      recent = k.recent;
      at = k.at;
    }
