-- Sorted keys of calls.
use Rattle.std.proofs.Common.{◌≡◌, ◌<◌, List, Bool, false, nat_eq, filter_map, get_or, ap, arith, IsPermutation, IsSorted}
use Rattle.std.specs.List.{IsDistinct}
use Rattle.std.specs.Ordering.{is_lt}
use Rattle.std.proofs.lemmas.Cmp.{nat_eq_equiv}
use Rattle.std.proofs.lemmas.Option.{slice_get_within, slice_get-get_or, get_or_from_slice_get}
use Rattle.std.proofs.lemmas.List.Sorted.{ranks_by, sorted_far, Contains-permutation, IsPermutation-sym}
use Rattle.std.proofs.lemmas.Map.Keys.{apart_from_distinct, IsDistinct-from_apart, IsDistinct-IsPermutation}
use Rattle.std.proofs.lemmas.Bool.Decides.{nat_tests}
use Rattle.tag.specs.declared.numbers.OpId.{OpId}
use Rattle.recorder.specs.declared.part.Call.{Call}
use Rattle.recorder.specs.Parts.{IsSequence}
use Rattle.witness_order.specs.declared.sort_key.SortKey.{SortKey}
use Rattle.witness_order.specs.Keys.{key_of, key_cmp}
use Rattle.tag.proofs.Lists.{place_of, Contains-slice_get}
use Rattle.witness_order.proofs.Lists.{source, sources, kept}
use Rattle.witness_order.proofs.CallKeys.{key_is}
use Rattle.witness_order.proofs.KeyOrder.{key_cmp_total, first_from_test}
use Rattle.witness_order.proofs.ByKeys.{AreSorted}

same_number : SortKey → SortKey → Bool
same_number a b = nat_eq a.op.0 b.op.0

apart : (a b : SortKey) → a.op.0 < b.op.0 → same_number a b ≡ false
unfolding same_number
apart a b less = grind (arith, nat_tests)

differ : (a b : SortKey) → same_number a b ≡ false → a.op.0 ≡ b.op.0 → ⊥
unfolding same_number
differ a b h e = grind (arith, nat_tests)

-- no two calls of a part have keys of one number
distinct_keys : (part : List Call) → IsSequence part → IsDistinct same_number (filter_map key_of part)
distinct_keys part sequence = IsDistinct-from_apart same_number keys (λ i j d less within.
    let a = get_or keys i d in
    let b = get_or keys j d in
    let s = sources key_of part a b i j less (slice_get-get_or keys i d (omega arith)) (slice_get-get_or keys j d within) in
    let p = ap (λ (o : OpId). o.0) (key_is s.2 a s.7).number in
    let q = ap (λ (o : OpId). o.0) (key_is s.3 b s.8).number in
    let up = sequence.numbers s.0 s.1 s.2 s.3 s.4 s.5 s.6 in
    apart a b (omega arith))
  where
    keys : List SortKey
    keys = filter_map key_of part

-- the keys of a part's calls in another order, sorted
pub AreSorted-sort : (part : List Call) → IsSequence part → (keys : List SortKey) → IsPermutation (filter_map key_of part) keys → IsSorted key_cmp keys → AreSorted part keys
unfolding same_number
AreSorted-sort part sequence keys moved up = record {
  each = λ i key at.
      let made = filter_map key_of part in
      let there = Contains-permutation keys made key (IsPermutation-sym made keys moved) (Contains-slice_get keys i key at) in
      let k = place_of made key there in
      let s = source key_of part key k.0 k.1 in
      (s.1, Contains-slice_get part s.0 s.1 s.2, s.3);
  all = λ call key h is.
      let made = filter_map key_of part in
      let i = place_of part call h in
      let k = kept key_of part i.0 call key i.1 is in
      place_of keys key (Contains-permutation made keys key moved (Contains-slice_get made k.0 key k.1));
  rises = λ i j a b less at_i at_j.
      let made = filter_map key_of part in
      let within = slice_get_within keys j b at_j in
      let other : same_number (get_or keys i a) (get_or keys j a) ≡ false = apart_from_distinct same_number keys i j a (IsDistinct-IsPermutation same_number (λ x y. nat_eq_equiv.symm x.op.0 y.op.0) made keys moved (distinct_keys part sequence)) less within in
      let test = sorted_far (λ x y. is_lt (key_cmp x y)) (ranks_by key_cmp_total (λ (k : SortKey). k)) keys up i j a (omega arith) within in
      let left : get_or keys i a ≡ a = get_or_from_slice_get keys i a a at_i in
      let right : get_or keys j a ≡ b = get_or_from_slice_get keys j b a at_j in
      first_from_test a b (rw (left, right) at test) (differ a b (rw (left, right) at other));
}
