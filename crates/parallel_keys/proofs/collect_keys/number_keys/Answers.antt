use Rattle.std.proofs.Common.{ap, ℕ, List}
use Rattle.parallel_keys.proofs.Recorded.{entries_more, numbered_more}
use Rattle.parallel_keys.proofs.collect_keys.number_keys.Goals as goal

pub loop-place-preserved : goal.loop-place-preserved
loop-place-preserved c = record {
  numbered = numbered_more c.loop-place.numbers c.number.new.self c.loop-place.list.items c.push.new.self.items _ c.loop-place.invariant.numbered c.in_ok-number.ensures.ok c.in_ok-push.ensures.items;
  entries = entries_more c.args.parts.now.entries c.loop-place.place _ _ _ c.loop-place.list.items c.push.new.self.items c.entry-text.ensures (ap (λ (k : List ℕ). (k, c.entry-text.result.1)) c.key-key.ensures) c.loop-place.invariant.entries c.in_ok-push.ensures.items;
}
