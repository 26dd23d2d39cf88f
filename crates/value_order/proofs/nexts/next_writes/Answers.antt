use Rattle.std.proofs.Common.{ℕ, ◌≡◌, ◌<◌, ◌+◌, ◌-◌, Option, Some, List, length, inl, inr, sym, ◌∙◌, ap, subst, arith}
use Rattle.std.proofs.lemmas.Option.{same_Some, slice_get-get_or}
use Rattle.tag.proofs.Lists.{item_at}
use Rattle.value_order.specs.declared.classes.Class.{Class}
use Rattle.value_order.specs.declared.classes.Class.TheVariants as class
use Rattle.value_order.proofs.ReadSources.{numbered}
use Rattle.value_order.proofs.NextWrites.{AreNextsFrom, nexts_same, nexts_read, nexts_write}
use Rattle.value_order.proofs.nexts.next_writes.Goals as goal

-- from the call before
from_next : (classes : List Class) (i : ℕ) (nexts following : List (Option ℕ)) → 0 < i → AreNextsFrom classes i nexts following → AreNextsFrom classes (i - 1 + 1) nexts following
from_next classes i nexts following some are = (let e : i ≡ i - 1 + 1 = omega arith in subst (λ (n : ℕ). AreNextsFrom classes n nexts following) e are)

pub index-requires : goal.index-requires
index-requires c =
    let within : c.calls.i - 1 < length c.args.classes.now = omega (arith, c.calls.invariant.within, c.calls-test.true) in
    let at = slice_get-get_or c.args.classes.now (c.calls.i - 1) _ within ∙ ap Some c.in-Writes.is in
    let less = numbered c.args.part.now c.args.classes.now c.requires (c.calls.i - 1) c.in-Writes.first (inl at) in
    omega (arith, c.calls.invariant.are.width, c.calls.following.ok.0)

pub index_mut-requires-in-Writes : goal.index_mut-requires-in-Writes
index_mut-requires-in-Writes c =
    let within : c.calls.i - 1 < length c.args.classes.now = omega (arith, c.calls.invariant.within, c.calls-test.true) in
    let at = slice_get-get_or c.args.classes.now (c.calls.i - 1) _ within ∙ ap Some c.in-Writes.is in
    let less = numbered c.args.part.now c.args.classes.now c.requires (c.calls.i - 1) c.in-Writes.first (inl at) in
    omega (arith, c.calls.invariant.are.width, c.calls.following.ok.0)

pub calls-preserved-in-Writes : goal.calls-preserved-in-Writes
calls-preserved-in-Writes c =
    let l = c.calls in
    let classes = c.args.classes.now in
    let within : l.i - 1 < length classes = omega (arith, l.invariant.within, c.calls-test.true) in
    let at = slice_get-get_or classes (l.i - 1) _ within ∙ ap Some c.in-Writes.is in
    let less = numbered c.args.part.now c.args.classes.now c.requires (l.i - 1) c.in-Writes.first (inl at) in
    let was = from_next classes l.i l.nexts.items l.following.items c.calls-test.true l.invariant.are in
    let here = item_at l.following.items c.in-Writes.first c.index.result.now (omega (arith, l.invariant.are.width)) c.index.ensures in
    rw c.short_index.ensures (record {
      within = omega (arith, within);
      are = nexts_write classes (l.i - 1) l.nexts.items l.following.items was c.in-Writes.first c.index.result.now (inl at) within here at;
    })

pub index-requires-in-Answers : goal.index-requires-in-Answers
index-requires-in-Answers c =
    let within : c.calls.i - 1 < length c.args.classes.now = omega (arith, c.calls.invariant.within, c.calls-test.true) in
    let at = slice_get-get_or c.args.classes.now (c.calls.i - 1) _ within ∙ ap Some c.in-Answers.is in
    let less = numbered c.args.part.now c.args.classes.now c.requires (c.calls.i - 1) c.in-Answers.first (inr at) in
    omega (arith, c.calls.invariant.are.width, c.calls.following.ok.0)

pub calls-preserved-in-Answers : goal.calls-preserved-in-Answers
calls-preserved-in-Answers c =
    let l = c.calls in
    let classes = c.args.classes.now in
    let within : l.i - 1 < length classes = omega (arith, l.invariant.within, c.calls-test.true) in
    let at = slice_get-get_or classes (l.i - 1) _ within ∙ ap Some c.in-Answers.is in
    let less = numbered c.args.part.now c.args.classes.now c.requires (l.i - 1) c.in-Answers.first (inr at) in
    let was = from_next classes l.i l.nexts.items l.following.items c.calls-test.true l.invariant.are in
    let here = item_at l.following.items c.in-Answers.first c.index-in-Answers.result.now (omega (arith, l.invariant.are.width)) c.index-in-Answers.ensures in
    record {
      within = omega (arith, within);
      are = nexts_read classes (l.i - 1) l.nexts.items l.following.items was c.in-Answers.first c.index-in-Answers.result.now (inr at) within here at;
    }

pub calls-preserved : goal.calls-preserved
calls-preserved c =
    let l = c.calls in
    let classes = c.args.classes.now in
    let within : l.i - 1 < length classes = omega (arith, l.invariant.within, c.calls-test.true) in
    let was = from_next classes l.i l.nexts.items l.following.items c.calls-test.true l.invariant.are in
    record {
      within = omega (arith, within);
      are = nexts_same classes (l.i - 1) l.nexts.items l.following.items was (λ k has. elim has [
        | inl h ↦ c.in_default.not-Writes k (same_Some _ (class.Writes k) (sym (slice_get-get_or classes (l.i - 1) _ within) ∙ h))
        | inr h ↦ c.in_default.not-Answers k (same_Some _ (class.Answers k) (sym (slice_get-get_or classes (l.i - 1) _ within) ∙ h))
      ]);
    }
