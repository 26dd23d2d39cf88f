use Rattle.std.proofs.Common.{◌≡◌, count_by, take}
use Rattle.record_monitor.specs.Followed.{is_refused}
use Rattle.record_monitor.proofs.watched_keys.WatchedKeys.refused_count.Given as goal

abbrev pub invariant-loop-number : goal.invariant-loop-number
invariant-loop-number l = l.count ≡ count_by is_refused (take l.number l.self.watched.items)
