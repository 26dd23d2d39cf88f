use Rattle.std.proofs.Common.{ℕ, ◌≡◌, ◌<◌, ◌+◌, Some, List, [], ◌∷◌, ◌++◌, length, sym, ◌∙◌, subst, arith}
use Rattle.std.specs.List.{slice_get}
use Rattle.std.specs.Option.{option_copied}
use Rattle.std.proofs.lemmas.Result.{on_ok_weaker}
use Rattle.tag.specs.declared.actions.Action.TheVariants.{Read}
use Rattle.tag.specs.declared.actions.Returned.TheVariants.{Value}
use Rattle.recorder.specs.declared.row.Row.TheVariants.{Invoke, Respond}
use Rattle.monitored_key.specs.Maps.{entry_at}
use Rattle.record_monitor.specs.Waiting.{AreWaiting}
use Rattle.record_monitor.proofs.Entries.{lacks_entry, still_entry}
use Rattle.record_monitor.proofs.Finishing.{recent_without}
use Rattle.record_monitor.proofs.Taking.{began_before, gone_late, gone_there, next_of, number_within, pending, read_begun, waiting_key}
use Rattle.record_monitor.proofs.Taking.{waiting_stays}
use Rattle.record_monitor.proofs.Waits.{given_up_on, waits_after_all, waits_read}
use Rattle.record_monitor.proofs.taken.Taken.end_read.Goals as goal

pub end_read-requires-clause-there : goal.end_read-requires-clause-there
end_read-requires-clause-there c =
    let old = c.args.self.now in
    let m = c.requires.may.0 in
    let w = m.keeps.knows.waiting.each c.args.begun.place c.in-Some.number (sym c.remove.ensures.value ∙ c.in-Some.is) in
    number_within old.give_up m.rows m.gone old.keys m.keeps.knows.keys c.in-Some.number w.key w.key_is

pub end_read-requires-clause-began : goal.end_read-requires-clause-began
end_read-requires-clause-began c =
    let old = c.args.self.now in
    let m = c.requires.may.0 in
    omega (arith, began_before m.rows m.formed c.args.op old.keys.numbers c.args.begun c.requires.may.1, m.keeps.at)

pub end_read-requires-clause-next : goal.end_read-requires-clause-next
end_read-requires-clause-next c = λ w at.
    let old = c.args.self.now in
    let m = c.requires.may.0 in
    next_of old.give_up m.rows m.gone old.keys m.keeps.knows.keys c.in-Some.number w at old.place (sym m.keeps.at)

pub returns-in-Some-clause-keys : goal.returns-in-Some-clause-keys
returns-in-Some-clause-keys c =
    let old = c.args.self.now in
    let op = c.args.op in
    let begun = c.args.begun in
    let value = option_copied c.args.value in
    let reads = entry_at old.reads.entries in
    let new = entry_at c.remove.new.self.entries in
    let lacks = lacks_entry old.reads c.remove.new.self begun.place c.remove.ensures.updates in
    let e = sym c.remove.ensures.value ∙ c.in-Some.is in
    on_ok_weaker c.end_read.result (λ h rows gone formed may b k.
    let at = read_begun rows formed op old.keys.numbers begun b value may in
    let waiting = k.knows.waiting in
    record {
      knows = record {
        given_up = given_up_on old.give_up rows (Respond op (Value value)) gone k.knows.given_up;
        keys = h old.give_up rows gone b.key formed (sym k.at)
            (waiting_key rows formed op b.client begun.place b.key at old.keys.numbers gone reads waiting c.in-Some.number e)
            (subst (λ (n : ℕ). slice_get rows begun.place ≡ Some (Invoke op n b.key Read)) b.whose at) may
            k.knows.given_up
            (waiting_stays rows formed op b.client begun.place b.key at old.keys.numbers gone reads waiting c.in-Some.number e)
            k.knows.keys;
        waiting = subst (λ (ks : List (List ℕ)). AreWaiting (rows ++ Respond op (Value value) ∷ []) ks gone new)
            (sym c.end_read.ensures.numbers)
            (waits_read rows op (Value value) old.keys.numbers gone reads new waiting formed b.client begun.place b.key at lacks);
      };
      recent = recent_without old.give_up (length rows) begun.place reads new k.recent lacks;
      at = k.at;
    })
    c.end_read.ensures.watched

pub returns-in-None-clause-keys : goal.returns-in-None-clause-keys
returns-in-None-clause-keys c =
    let old = c.args.self.now in
    let op = c.args.op in
    let begun = c.args.begun in
    let value = option_copied c.args.value in
    let reads = entry_at old.reads.entries in
    let new = entry_at c.remove.new.self.entries in
    let lacks = lacks_entry old.reads c.remove.new.self begun.place c.remove.ensures.updates in
    let e = sym c.remove.ensures.value ∙ c.in-None.is in
    on_ok_weaker c.end_after_all.result (λ h rows gone formed may b k.
    let at = read_begun rows formed op old.keys.numbers begun b value may in
    let waiting = k.knows.waiting in
    let there = gone_there rows formed op b.client begun.place b.key at old.keys.numbers gone reads waiting
    (pending rows formed op old.keys.numbers begun b (Value value) may) e in
    let late = gone_late rows formed op b.client begun.place b.key at old.keys.numbers gone reads waiting old.give_up k.knows.given_up
    there in
    record {
      knows = record {
        given_up = given_up_on old.give_up rows (Respond op (Value value)) gone k.knows.given_up;
        keys = h old.give_up rows gone b.key b.client begun.place (Value value) formed (sym k.at) b.key_is at may
            (subst (λ (p : ℕ). begun.place + old.give_up < p) (sym k.at) late) there k.knows.keys;
        waiting = subst (λ (ks : List (List ℕ)). AreWaiting (rows ++ Respond op (Value value) ∷ []) ks gone new)
            (sym c.end_after_all.ensures.numbers)
            (waits_after_all rows op (Value value) old.keys.numbers gone reads new waiting there (λ begin. still_entry old.reads
            c.remove.new.self begun.place begin e lacks));
      };
      recent = recent_without old.give_up (length rows) begun.place reads new k.recent lacks;
      at = k.at;
    })
    c.end_after_all.ensures.watched
