use Rattle.std.proofs.Common.{◌≡◌, length, ◌∙◌, refl, arith}
use Rattle.std.proofs.lemmas.Result.{on_ok_weaker}
use Rattle.std.specs.Vec.{with_item}
use Rattle.record_monitor.specs.declared.watched_keys.WatchedKeys.{WatchedKeys}
use Rattle.record_monitor.proofs.KeySteps.{noted_of_key, set_changes}
use Rattle.record_monitor.proofs.Taking.{key_at}
use Rattle.record_monitor.proofs.watched_keys.WatchedKeys.note.Goals as goal

pub returns-then-number-len-clause-watched : goal.returns-then-number-len-clause-watched
returns-then-number-len-clause-watched c = on_ok_weaker c.note.result (λ told most rows gone has a.
    let old = c.args.self.now in
    let was = c.index_mut.result.now in
    let now = c.note.new.self in
    let new : WatchedKeys = record {
      alloc = old.alloc;
      numbers = old.numbers;
      watched = with_item old.watched c.args.number now;
      reports = old.reports;
    } in
    let count : c.len.result ≡ length old.watched.items = c.len.ensures ∙ old.watched.ok.0 in
    let changes = set_changes old.watched.items c.args.number was now (omega
    (arith, count, c.if-number-len.true)) c.index_mut.ensures.value in
    let key = key_at most rows gone old a c.args.number was changes.before in
    noted_of_key most rows gone key.0 c.args.number old new was now key.1 a refl changes refl c.note.ensures.state
    (told rows key.0 (a.each c.args.number key.0 was key.1 changes.before).told has)) c.note.ensures.told
