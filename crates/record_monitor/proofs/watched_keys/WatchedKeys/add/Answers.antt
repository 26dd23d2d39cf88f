use Rattle.std.proofs.Common.{refl}
use Rattle.record_monitor.specs.declared.watched_keys.WatchedKeys.{WatchedKeys}
use Rattle.record_monitor.proofs.Adding.{unseen_number}
use Rattle.record_monitor.proofs.KeySteps.{first_of_key}
use Rattle.record_monitor.proofs.watched_keys.WatchedKeys.add.Goals as goal

pub returns-clause-watched : goal.returns-clause-watched
returns-clause-watched c = λ most rows gone formed e may are a.
    let old = c.args.self.now in
    let new : WatchedKeys = record {
      alloc = old.alloc;
      numbers = c.number_text.new.self;
      watched = c.push.new.self;
      reports = old.reports;
    } in
    first_of_key most rows gone c.args.key.now c.args.call.now.client c.args.call.now.op c.args.action.now old new c.in_ok-watched.watched formed may a
    c.requires.unseen (unseen_number old.numbers c.args.key.now c.in_ok-number_text.field-0 c.number_text.new.self
    c.in_ok-number_text.ensures.ok c.requires.unseen) c.in_ok-push.ensures.items refl
    (c.in_ok-watched.ensures.follows rows c.args.key.now gone formed e may are
    (λ begin b. c.requires.unseen (a.seen.all c.args.key.now begin b))) c.in_ok-watched.ensures.state c.in_ok-watched.ensures.doubt

pub returns-clause-numbers : goal.returns-clause-numbers
returns-clause-numbers c =
    unseen_number c.args.self.now.numbers c.args.key.now c.in_ok-number_text.field-0 c.number_text.new.self c.in_ok-number_text.ensures.ok
    c.requires.unseen
