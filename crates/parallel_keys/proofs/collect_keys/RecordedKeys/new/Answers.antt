use Rattle.std.proofs.Common.{map}
use Rattle.parallel_keys.specs.KeysToCheck.{entry_of}
use Rattle.parallel_keys.proofs.Recorded.{parts_more}
use Rattle.parallel_keys.proofs.collect_keys.RecordedKeys.new.Goals as goal

pub loop-own-preserved : goal.loop-own-preserved
loop-own-preserved c = record {
  numbered = c.in_ok-number_keys.ensures.numbers;
  entries = parts_more _ c.args.parts.now c.loop-own.own-index c.own-item.result (map entry_of c.loop-own.list.items) _ c.loop-own-test.true c.own-item.is c.loop-own.invariant.entries
      c.in_ok-number_keys.ensures.entries;
}
