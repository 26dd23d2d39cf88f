use Rattle.std.proofs.Common.{◌≡◌, count_by, take}
use Rattle.record_monitor.specs.Followed.{is_doubtful}
use Rattle.record_monitor.proofs.watched_keys.WatchedKeys.doubtful_count.Given as goal

abbrev pub invariant-loop-number : goal.invariant-loop-number
invariant-loop-number l = l.count ≡ count_by is_doubtful (take l.number l.self.watched.items)
