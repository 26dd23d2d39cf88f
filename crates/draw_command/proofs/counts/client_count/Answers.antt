use Rattle.std.specs.List.{Contains}
use Rattle.std.proofs.Common.{map, arith}
use Rattle.std.proofs.lemmas.List.Filters.{dedup_is}
use Rattle.recorder.specs.declared.part.Call.{Call}
use Rattle.scenes.proofs.Rising.{rising_list}
use Rattle.draw_command.proofs.counts.client_count.Goals as goal

pub returns : goal.returns
returns c =
    let start = map (λ (call : Call). call.client) c.args.part.now in
    record {
      clients = c.dedup.new.self.items;
      each_once = rising_list (λ n. Contains start n) c.in_ok-clients.clients.items _ _
          (λ n h. rw c.in_ok-clients.ensures at h) (λ n h. rw c.in_ok-clients.ensures h) c.sort_unstable.ensures.permutation c.sort_unstable.ensures.sorted
          (dedup_is _ _ _ c.dedup.ensures.filtered);
      is = omega (arith, c.len.ensures, c.dedup.new.self.ok.0);
    }
