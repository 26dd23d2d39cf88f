use Rattle.std.proofs.Common.{◌≡◌, ◌-◌, ◌^◌, min, take}
use Rattle.std.specs.List.{sum_by}
use Rattle.record_monitor.specs.Followed.{kept_of}
use Rattle.record_monitor.proofs.watched_keys.WatchedKeys.kept_count.Given as goal

abbrev pub invariant-loop-number : goal.invariant-loop-number
invariant-loop-number l = l.count ≡ min (sum_by kept_of (take l.number l.self.watched.items)) (2 ^ 64 - 1)
