use Rattle.std.proofs.Common.{refl}
use Rattle.std.specs.Vec.{with_item}
use Rattle.tag.specs.declared.actions.Action.TheVariants.{Write}
use Rattle.tag.specs.declared.actions.Returned.TheVariants.{Written}
use Rattle.tag.proofs.Lists.{Contains-slice_get}
use Rattle.recorder.specs.declared.row.Row.TheVariants.{Invoke}
use Rattle.record_monitor.specs.declared.watched_keys.WatchedKeys.{WatchedKeys}
use Rattle.record_monitor.proofs.KeySteps.{answer_of_key, set_changes}
use Rattle.record_monitor.proofs.OneKey.{follows_now}
use Rattle.record_monitor.proofs.Steps.{on_ok_two}
use Rattle.record_monitor.proofs.watched_keys.WatchedKeys.end_write.Goals as goal

pub returns-clause-watched : goal.returns-clause-watched
returns-clause-watched c =
    let old = c.args.self.now in
    let was = c.index_mut.result.now in
    let now = c.end_write.new.self in
    let new : WatchedKeys = record {
      alloc = old.alloc;
      numbers = old.numbers;
      watched = with_item old.watched c.args.number now;
      reports = old.reports;
    } in
    let changes = set_changes old.watched.items c.args.number was now c.requires.there c.index_mut.ensures.value in
    on_ok_two c.end_write.result (λ follows goes most rows gone key value formed e at begun may stays a.
    let call = c.args.call.now in
    answer_of_key most rows gone key call.client call.op (Write value) Written c.args.number old new was now formed may at
    (Contains-slice_get rows call.begun (Invoke call.op call.client key (Write value)) begun) a refl
    changes stays refl
    (follows rows key gone value formed e begun may stays
    (follows_now most rows gone old.reports.items c.args.number key was (a.each c.args.number key was at changes.before))) goes)
    c.end_write.ensures.follows c.end_write.ensures.goes
