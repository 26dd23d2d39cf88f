use Rattle.std.proofs.Common.{ℕ, ◌≡◌, List, Some, length, sym, ◌∙◌, subst, refl, arith}
use Rattle.std.specs.List.{slice_get}
use Rattle.std.specs.Vec.{with_item}
use Rattle.std.proofs.lemmas.Result.{on_ok_weaker}
use Rattle.tag.proofs.Lists.{slice_get-push_left}
use Rattle.record_monitor.specs.declared.watched_keys.WatchedKeys.{WatchedKeys}
use Rattle.record_monitor.proofs.Adding.{number_seen, number_there, number_unseen}
use Rattle.record_monitor.proofs.KeySteps.{begin_of_key, set_changes}
use Rattle.record_monitor.proofs.OneKey.{follows_now}
use Rattle.record_monitor.proofs.Steps.{on_ok_two}
use Rattle.record_monitor.proofs.watched_keys.WatchedKeys.begin.Goals as goal

pub returns-then-number-len-clause-watched : goal.returns-then-number-len-clause-watched
returns-then-number-len-clause-watched c =
    let old = c.args.self.now in
    let was = c.index_mut.result.now in
    let now = c.begin.new.self in
    let new : WatchedKeys = record {
      alloc = old.alloc;
      numbers = old.numbers;
      watched = with_item old.watched c.args.number now;
      reports = old.reports;
    } in
    let count : c.len.result ≡ length old.watched.items = c.len.ensures ∙ old.watched.ok.0 in
    let at = number_seen old.numbers c.args.key.now c.args.number c.len.result (count ∙ c.requires.many) c.requires.number
    c.if-number-len.true in
    let changes = set_changes old.watched.items c.args.number was now (omega
    (arith, count, c.if-number-len.true)) c.index_mut.ensures.value in
    on_ok_two c.begin.result (λ follows goes most rows gone formed e may are a.
    begin_of_key most rows gone c.args.key.now c.args.call.now.client c.args.call.now.op c.args.action.now c.args.number old new was now formed may at a refl
    changes refl
    (follows rows c.args.key.now gone formed e may are
    (follows_now most rows gone old.reports.items c.args.number c.args.key.now was (a.each c.args.number c.args.key.now was at changes.before))) goes)
    c.begin.ensures.follows c.begin.ensures.goes

pub add-requires-clause-unseen : goal.add-requires-clause-unseen
add-requires-clause-unseen c =
    let old = c.args.self.now in
    let count : c.len.result ≡ length old.watched.items = c.len.ensures ∙ old.watched.ok.0 in
    number_unseen old.numbers c.args.key.now c.args.number c.len.result (count ∙ c.requires.many) c.requires.number c.if-number-len.false

pub returns-clause-here : goal.returns-clause-here
returns-clause-here c =
    let old = c.args.self.now in
    let count : c.len.result ≡ length old.watched.items = c.len.ensures ∙ old.watched.ok.0 in
    on_ok_weaker c.add.result (λ added. number_there old.numbers c.args.key.now c.args.number c.len.result (count ∙ c.requires.many)
    c.requires.number c.if-number-len.false c.add.new.self.numbers added)
    c.add.ensures.numbers

pub returns-clause-stay : goal.returns-clause-stay
returns-clause-stay c =
    on_ok_weaker c.add.result (λ added n k at. subst (λ (ks : List (List ℕ)). slice_get ks n ≡ Some k) (sym added)
    (slice_get-push_left c.args.self.now.numbers c.args.key.now n k at))
    c.add.ensures.numbers
