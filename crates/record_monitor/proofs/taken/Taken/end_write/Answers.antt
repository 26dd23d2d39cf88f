use Rattle.std.proofs.Common.{ℕ, ◌≡◌, Some, List, [], ◌∷◌, ◌++◌, sym, subst, refl}
use Rattle.std.specs.List.{slice_get}
use Rattle.std.proofs.lemmas.Result.{on_ok_weaker}
use Rattle.tag.specs.declared.actions.Action.TheVariants.{Write}
use Rattle.tag.specs.declared.actions.Returned.TheVariants.{Written}
use Rattle.recorder.specs.declared.row.Row.TheVariants.{Invoke, Respond}
use Rattle.monitored_key.specs.Maps.{entry_at}
use Rattle.record_monitor.specs.Waiting.{AreWaiting}
use Rattle.record_monitor.proofs.Taking.{next_of, write_begun, write_stays}
use Rattle.record_monitor.proofs.Waits.{given_up_on, waits_written}
use Rattle.record_monitor.proofs.taken.Taken.end_write.Goals as goal

pub end_write-requires-clause-next : goal.end_write-requires-clause-next
end_write-requires-clause-next c = λ w at.
    let old = c.args.self.now in
    let m = c.requires.may.0 in
    next_of old.give_up m.rows m.gone old.keys m.keeps.knows.keys c.args.begun.key w at old.place (sym m.keeps.at)

pub returns-clause-keys : goal.returns-clause-keys
returns-clause-keys c =
    let old = c.args.self.now in
    let op = c.args.op in
    let begun = c.args.begun in
    on_ok_weaker c.end_write.result (λ h rows gone formed may b k.
    let v = write_begun rows formed op old.keys.numbers begun b may in
    let up = k.knows.given_up in
    record {
      knows = record {
        given_up = given_up_on old.give_up rows (Respond op Written) gone up;
        keys = h old.give_up rows gone b.key v.0 formed (sym k.at) b.key_is
            (subst (λ (n : ℕ). slice_get rows begun.place ≡ Some (Invoke op n b.key (Write v.0))) b.whose v.1) may
            (write_stays rows formed op old.keys.numbers begun b old.give_up gone up v.0 v.1) k.knows.keys;
        waiting = subst (λ (ks : List (List ℕ)). AreWaiting (rows ++ Respond op Written ∷ []) ks gone (entry_at old.reads.entries))
            (sym c.end_write.ensures.numbers)
            (waits_written rows op Written old.keys.numbers gone (entry_at old.reads.entries) (entry_at old.reads.entries)
            k.knows.waiting formed b.client begun.place b.key v.0 v.1 (λ begin. refl));
      };
      recent = k.recent;
      at = k.at;
    })
    c.end_write.ensures.watched
