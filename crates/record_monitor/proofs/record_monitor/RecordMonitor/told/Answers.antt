use Rattle.std.proofs.Common.{◌≡◌, Option, Some, IfSome, ap, sym, ◌∙◌, subst}
use Rattle.std.specs.List.{slice_get}
use Rattle.record_monitor.specs.declared.taken.Taken.{Taken}
use Rattle.record_monitor.specs.declared.told.Told.{Told}
use Rattle.record_monitor.specs.declared.watched_keys.WatchedKeys.{WatchedKeys}
use Rattle.record_monitor.specs.Followed.{told_in}
use Rattle.record_monitor.specs.Monitored.{HasTaken, keys_of}
use Rattle.record_monitor.specs.Told.{IsTold}
use Rattle.record_monitor.proofs.Meaning.{told_is_so}
use Rattle.record_monitor.proofs.record_monitor.RecordMonitor.told.Goals as goal

pub returns-in-Some-clause-told : goal.returns-in-Some-clause-told
returns-in-Some-clause-told c = λ rows name taken at.
    let some : c.args.self.now ≡ Some c.in-Some.taken = sym c.self.view_is ∙ c.in-Some.is in
    let k = subst (HasTaken rows) some taken in
    let key = subst (λ (o : Option Taken). slice_get (keys_of o) c.args.key ≡ Some name) some at in
    let is = c.told.ensures ∙ ap (λ (k : WatchedKeys). told_in (slice_get k.watched.items c.args.key)) c.keys.ensures in
    subst (λ (o : Option Told). IfSome o (IsTold rows name)) (sym is) (told_is_so rows c.in-Some.taken k c.args.key name key)
