use Rattle.std.proofs.Common.{refl}
use Rattle.std.specs.Vec.{with_item}
use Rattle.tag.specs.declared.actions.Action.TheVariants.{Read}
use Rattle.tag.proofs.Lists.{Contains-slice_get}
use Rattle.recorder.specs.declared.row.Row.TheVariants.{Invoke}
use Rattle.record_monitor.specs.declared.watched_keys.WatchedKeys.{WatchedKeys}
use Rattle.record_monitor.proofs.KeySteps.{given_up_of_key, set_changes}
use Rattle.record_monitor.proofs.OneKey.{follows_now}
use Rattle.record_monitor.proofs.watched_keys.WatchedKeys.give_up.Goals as goal

pub returns-clause-watched : goal.returns-clause-watched
returns-clause-watched c = λ most rows gone key op client formed at begun pending stays a.
    let old = c.args.self.now in
    let was = c.index_mut.result.now in
    let now = c.give_up.new.self in
    let new : WatchedKeys = record {
      alloc = old.alloc;
      numbers = old.numbers;
      watched = with_item old.watched c.args.number now;
      reports = old.reports;
    } in
    let changes = set_changes old.watched.items c.args.number was now c.requires.there c.index_mut.ensures.value in
    given_up_of_key most rows gone key client op c.args.number old new was now formed at
    (Contains-slice_get rows c.args.begin (Invoke op client key Read) begun) a refl changes refl pending
    (c.give_up.ensures.follows rows key gone op client formed begun pending stays
    (follows_now most rows gone old.reports.items c.args.number key was (a.each c.args.number key was at changes.before))) c.give_up.ensures.goes
