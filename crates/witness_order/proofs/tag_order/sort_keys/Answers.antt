use Rattle.std.proofs.Common.{◌≡◌, ◌+◌, ◌∷◌, ◌++◌, [], ℕ, suc, List, Option, Some, None, take, add-one, ap, sym, ◌∙◌, arith}
use Rattle.std.specs.List.{slice_get, filter_map, cons_option}
use Rattle.std.proofs.lemmas.List.{take_all, append-nil}
use Rattle.std.proofs.lemmas.List.Elements.{filter_map-append}
use Rattle.std.proofs.lemmas.Option.{same_Some}
use Rattle.tag.proofs.Lists.{take_push}
use Rattle.recorder.specs.declared.part.Call.{Call}
use Rattle.witness_order.specs.declared.sort_key.SortKey.{SortKey}
use Rattle.witness_order.specs.Keys.{key_of}
use Rattle.witness_order.proofs.tag_order.sort_keys.Goals as goal
use Rattle.witness_order.proofs.tag_order.sort_keys.Goals.{in-Some+in_ok-push, in_default}

-- the keys with that of one call more, if it has one
keys_more : (calls : List Call) (k : ℕ) (call : Call) (key : Option SortKey) → slice_get calls k ≡ Some call → key ≡ key_of call → filter_map key_of (take k calls) ++ cons_option key [] ≡ filter_map key_of (take (k + 1) calls)
keys_more calls k call key at is =
    let count : k + 1 ≡ suc k = add-one k in
    let front : take (k + 1) calls ≡ take k calls ++ call ∷ [] = ap (λ (n : ℕ). take n calls) count ∙ take_push calls k call at in
    let one : filter_map key_of (call ∷ []) ≡ cons_option key [] = ap (λ (o : Option SortKey). cons_option o []) (sym is) in
    sym (ap (filter_map key_of) front ∙ (filter_map-append key_of (take k calls) (call ∷ []) ∙ ap (λ (l : List SortKey). filter_map key_of (take k calls) ++ l) one))

pub loop-k-preserved : goal.loop-k-preserved
loop-k-preserved c =
    let calls = c.args.part.now in
    let l = c.loop-k in
    let of = c.state.ensures in
    let listed = c.op.ensures in
    let call = of.0 in
    let op : call.op ≡ c.op.result = ap (λ (x : Call). x.op) (same_Some call listed.0 (sym of.1 ∙ listed.1)) ∙ sym listed.2 in
    elim c.match-sort_key.branch [
      | in-Some+in_ok-push w ↦ rw (w.keys-is, w.in_ok-push.ensures.items, l.invariant) (keys_more calls l.k call (Some w.in-Some.key) of.1 (w.in-Some.ensures call op of.2))
      | in_default w ↦ rw w.keys-is (l.invariant ∙ (sym (append-nil (filter_map key_of (take l.k calls))) ∙ keys_more calls l.k call None of.1 (w.in_default.ensures call op of.2)))
    ]

pub returns : goal.returns
returns c = c.loop-k.invariant ∙ ap (filter_map key_of) (take_all c.loop-k.k c.args.part.now (omega (arith, c.loop-k-test.false, c.len-k-end.ensures.count)))
