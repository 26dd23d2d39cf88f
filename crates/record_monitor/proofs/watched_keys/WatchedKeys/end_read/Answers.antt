use Rattle.std.proofs.Common.{sym, subst, refl}
use Rattle.std.specs.Option.{option_copied}
use Rattle.std.specs.Vec.{with_item}
use Rattle.tag.specs.declared.actions.Action.TheVariants.{Read}
use Rattle.tag.specs.declared.actions.Returned.TheVariants.{Value}
use Rattle.tag.proofs.Lists.{Contains-slice_get}
use Rattle.recorder.specs.declared.row.Row.TheVariants.{Invoke}
use Rattle.record_monitor.specs.declared.watched_keys.WatchedKeys.{WatchedKeys}
use Rattle.record_monitor.specs.Ended.{HasEnded}
use Rattle.record_monitor.proofs.KeySteps.{answer_of_key, ended_of_key, set_changes}
use Rattle.record_monitor.proofs.OneKey.{ChangesOne, follows_now}
use Rattle.record_monitor.proofs.watched_keys.WatchedKeys.end_read.Goals as goal

pub returns-in_ok-report-clause-watched : goal.returns-in_ok-report-clause-watched
returns-in_ok-report-clause-watched c = λ most rows gone key formed e at begun may up stays a.
    let call = c.args.call.now in
    let old = c.args.self.now in
    let was = c.index_mut.result.now in
    let now = c.end_read.new.self in
    let value = option_copied c.args.value in
    let changes = set_changes old.watched.items c.args.number was now c.requires.there c.index_mut.ensures.value in
    let ended = subst (HasEnded most _ c.args.place key gone was now) c.in-Some.is
    (c.in_ok-finding.ensures most rows key gone formed e begun may up stays
    (follows_now most rows gone old.reports.items c.args.number key was (a.each c.args.number key was at changes.before))) in
    ended_of_key most rows gone key call.client call.op Read (Value value) c.args.number old c.report.new.self was now formed may at
    (Contains-slice_get rows call.begun (Invoke call.op call.client key Read) begun) a c.in_ok-report.ensures.numbers
    (subst (λ v. ChangesOne old.watched.items v.items c.args.number was now)
    (sym c.in_ok-report.ensures.watched) changes) stays c.args.place
    c.in-Some.finding c.in_ok-report.ensures.reports ended

pub returns-in_default-clause-watched : goal.returns-in_default-clause-watched
returns-in_default-clause-watched c = λ most rows gone key formed e at begun may up stays a.
    let call = c.args.call.now in
    let old = c.args.self.now in
    let was = c.index_mut.result.now in
    let now = c.end_read.new.self in
    let value = option_copied c.args.value in
    let new : WatchedKeys = record {
      alloc = old.alloc;
      numbers = old.numbers;
      watched = with_item old.watched c.args.number now;
      reports = old.reports;
    } in
    let changes = set_changes old.watched.items c.args.number was now c.requires.there c.index_mut.ensures.value in
    let ended = subst (HasEnded most _ c.args.place key gone was now) c.in_default.is
    (c.in_ok-finding.ensures most rows key gone formed e begun may up stays
    (follows_now most rows gone old.reports.items c.args.number key was (a.each c.args.number key was at changes.before))) in
    answer_of_key most rows gone key call.client call.op Read (Value value) c.args.number old new was now formed may at
    (Contains-slice_get rows call.begun (Invoke call.op call.client key Read) begun) a refl changes stays refl ended.0 ended.1
