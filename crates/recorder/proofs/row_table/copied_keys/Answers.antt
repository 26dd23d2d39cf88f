use Rattle.std.proofs.Common.{ℕ, suc, ◌≡◌, ◌+◌, List, Some, take, sym, ◌∙◌, arith, subst}
use Rattle.std.specs.List.{slice_get}
use Rattle.key_index.specs.Numbers.{EachOnce, Numbers}
use Rattle.key_index.specs.Numbers.Numbers.{known, first}
use Rattle.tag.proofs.Lists.{item_at, in_front, take_push}
use Rattle.recorder.proofs.row_table.copied_keys.Goals as goal

-- a key more of those that are numbered in turn
one_more : (keys new : List (List ℕ)) (k number : ℕ) (key : List ℕ) → EachOnce keys → slice_get keys k ≡ Some key → Numbers (take k keys) key number new → new ≡ take (k + 1) keys
one_more keys new k number key once at (known there same) =
    let f = in_front keys k number key there in
    absurd (omega (arith, f.0, once number k key f.1 at))
one_more keys new k number key once at (first unseen is more) =
    let next : suc k ≡ k + 1 = omega (arith) in
    subst (λ (n : ℕ). new ≡ take n keys) next (more ∙ sym (take_push keys k key at))

pub loop-key-preserved : goal.loop-key-preserved
loop-key-preserved c =
    let at = item_at c.keys-key-items.result.now c.loop-key.key-index c.key-item.result c.loop-key-test.true c.key-item.is in
    one_more c.args.keys.now c.number.new.self c.loop-key.key-index c.in_ok-number.field-0 c.key-item.result c.keys-key-items.ensures.distinct (rw c.keys-key-items.ensures.keys at at) (rw c.loop-key.invariant at c.in_ok-number.ensures.ok)
