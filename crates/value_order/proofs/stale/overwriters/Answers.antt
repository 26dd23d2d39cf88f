use Rattle.std.proofs.Common.{ℕ, ◌≡◌, ◌+◌, Option, List, refl, length, sym, ◌∙◌, ap, subst, arith}
use Rattle.recorder.specs.declared.part.Call.{Call}
use Rattle.value_order.specs.Ended.{IsLatestBefore, AreSlowest}
use Rattle.value_order.proofs.CallKinds.{call_at}
use Rattle.value_order.proofs.StaleTables.{latest_before, passed_next, found_more, take_back}
use Rattle.value_order.proofs.stale.overwriters.Goals as goal

pub overwriter_at-requires-clause-latest : goal.overwriter_at-requires-clause-latest
overwriter_at-requires-clause-latest c call at =
    let of = c.places.ensures in
    let passed = rw c.as_slice.ensures.value at c.ended_before-before.ensures.passed in
    let latest = rw c.as_slice.ensures.value at c.ended_before-before.ensures.latest in
    let same : c.places.result.invoked ≡ call.invoked = of.2.invoked ∙ ap (λ (x : Call). x.invoked) (call_at c.args.part.now c.loop-i.i c.loop-i.i of.0 call of.1 at refl) in
    subst (λ (p : ℕ). IsLatestBefore c.args.part.now p c.ended_before-before.result.latest) same (latest_before c.args.part.now c.in_ok-keys.keys.items c.ended_before-before.result.count c.places.result.invoked c.ended_before-before.result.latest c.in_ok-keys.ensures passed latest)

pub loop-i-preserved : goal.loop-i-preserved
loop-i-preserved c =
    let part = c.args.part.now in
    let of = c.places.ensures in
    let passed = rw c.as_slice.ensures.value at c.ended_before-before.ensures.passed in
    let latest = rw c.as_slice.ensures.value at c.ended_before-before.ensures.latest in
    let was = c.loop-i.invariant in
    let same : length c.note_write.new.slowest ≡ c.loop-i.slowest.len = omega (arith, c.note_write.ensures.all, was.slowest.all, c.loop-i.slowest.ok.0) in
    record {
      passed = passed_next part c.len-i-end.ensures.sequence c.in_ok-keys.keys.items c.ended_before-before.result.count c.loop-i.i of.0 c.places.result.invoked of.1 of.2.invoked passed;
      latest = latest;
      slowest = subst (λ (l : List (Option ℕ)). AreSlowest part c.args.classes.now (c.loop-i.i + 1) l) (sym (take_back c.loop-i.slowest.len c.note_write.new.slowest _ same)) c.note_write.ensures;
      found = rw c.in_ok-push.ensures.items (found_more part c.loop-i.i c.loop-i.found.items c.overwriter_at.result c.overwriter_at.ensures was.found);
    }
