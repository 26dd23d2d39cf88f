-- Sorted calls rise, and are the same calls.
use Rattle.std.proofs.Common.{ℕ, ◌≡◌, ◌≢◌, ◌<◌, ◌≤◌, ◌⊎◌, inl, inr, List, Bool, false, true}
use Rattle.std.proofs.Common.{get_or, nat_eq, sym, ap, arith, rules, IsPermutation, IsSorted}
use Rattle.std.specs.Cmp.{IsTotalOrder}
use Rattle.std.specs.Cmp.Rules.{comparing}
use Rattle.std.specs.List.{IsDistinct}
use Rattle.std.specs.Ordering.{nat_cmp, ordering_then, is_lt}
use Rattle.std.specs.declared.cmp.Ordering.{Ordering}
use Rattle.std.specs.declared.cmp.Ordering.TheVariants.{Less, Equal}
use Rattle.std.proofs.lemmas.Bool.{cases_lt}
use Rattle.std.proofs.lemmas.Bool.Decides.{nat_tests}
use Rattle.std.proofs.lemmas.Cmp.{nat_eq_equiv}
use Rattle.std.proofs.lemmas.Grind.{common_steps}
use Rattle.std.proofs.lemmas.List.Sorted.{ranks_by, sorted_far, Contains-permutation, IsPermutation-sym}
use Rattle.std.proofs.lemmas.Map.Keys.{apart_from_distinct, IsDistinct-from_apart, IsDistinct-IsPermutation}
use Rattle.std.proofs.lemmas.Option.{slice_get_within, slice_get-get_or, get_or_from_slice_get}
use Rattle.tag.specs.declared.numbers.OpId.{OpId}
use Rattle.tag.proofs.SameTags.{same_op}
use Rattle.store_orders.specs.TimedCalls.{TimedOrder, AreTimedCalls, timed_cmp}
use Rattle.store_orders.specs.declared.timed_calls.TimedCall.{TimedCall}
use Rattle.store_orders.proofs.Merged.{AreRising}

timed_cmp_total : IsTotalOrder timed_cmp
timed_cmp_total = search (comparing, rules)

-- ---- what a comparison says

nat_less : (m n : ℕ) → m < n → nat_cmp m n ≡ Less
nat_less m n h = grind (arith, common_steps)

nat_same : (m n : ℕ) → m ≡ n → nat_cmp m n ≡ Equal
nat_same m n h = grind (arith, common_steps)

-- what isn't after the other has a lower point, or the same and no higher place
not_after : (a b : TimedCall) → is_lt (timed_cmp b a) ≡ false → (a.point < b.point) ⊎ ((a.point ≡ b.point) × (a.index ≤ b.index))
not_after a b test =
    let numbers = nat_cmp b.op.0 a.op.0 in
    let places = nat_cmp b.index a.index in
    elim (cases_lt a.point b.point) [
      | inl h ↦ inl h
      | inr h ↦ elim (cases_lt b.point a.point) [
        | inl g ↦
            let less : is_lt (timed_cmp b a) ≡ true =
            ap (λ (o : Ordering). is_lt (ordering_then o (ordering_then places numbers))) (nat_less b.point a.point g) in
            absurd (cc)
        | inr g ↦
            let same : b.point ≡ a.point = omega arith in
            elim (cases_lt b.index a.index) [
              | inl f ↦
                  let tie : is_lt (timed_cmp b a) ≡ is_lt (ordering_then places numbers) =
                  ap (λ (o : Ordering). is_lt (ordering_then o (ordering_then places numbers))) (nat_same b.point a.point same) in
                  let less : is_lt (ordering_then places numbers) ≡ true =
                  ap (λ (o : Ordering). is_lt (ordering_then o numbers)) (nat_less b.index a.index f) in
                  absurd (cc)
              | inr f ↦ inr (sym same, f)
            ]
      ]
    ]

pub rising : (calls : List TimedCall) → IsSorted timed_cmp calls → AreRising calls
rising calls sorted = record {
  up = λ i j a b less at_i at_j.
      let within = slice_get_within calls j b at_j in
      let ranks = ranks_by timed_cmp_total (λ (c : TimedCall). c) in
      let test = sorted_far (λ x y. is_lt (timed_cmp x y)) ranks calls sorted i j a (omega arith) within in
      let left : get_or calls i a ≡ a = get_or_from_slice_get calls i a a at_i in
      let right : get_or calls j a ≡ b = get_or_from_slice_get calls j b a at_j in
      not_after a b (rw (left, right) at test);
}

-- ---- the same calls in another order

same_number : TimedCall → TimedCall → Bool
same_number a b = nat_eq a.op.0 b.op.0

other : (a b : TimedCall) → a.op ≢ b.op → same_number a b ≡ false
unfolding same_number
other a b h =
    let apart : a.op.0 ≢ b.op.0 = (λ (e : a.op.0 ≡ b.op.0). h (same_op a.op b.op e)) in
    grind (arith, nat_tests)

differ : (a b : TimedCall) → same_number a b ≡ false → a.op ≢ b.op
unfolding same_number
differ a b h e =
    let same : a.op.0 ≡ b.op.0 = ap (λ (o : OpId). o.0) e in
    grind (arith, nat_tests)

pub moved_calls : (all : List TimedOrder) (made calls : List TimedCall) → IsPermutation made calls → AreTimedCalls all made
    → AreTimedCalls all calls
unfolding same_number
moved_calls all made calls moved are =
    let apart : IsDistinct same_number made = IsDistinct-from_apart same_number made (λ i j d less within.
    other (get_or made i d) (get_or made j d) (are.once i j (get_or made i d) (get_or made j d) less
    (slice_get-get_or made i d (omega arith)) (slice_get-get_or made j d within))) in
    record {
      each = λ call there. are.each call (Contains-permutation calls made call (IsPermutation-sym made calls moved) there);
      all = λ timed call has is. Contains-permutation made calls call moved (are.all timed call has is);
      once = λ i j a b less at_i at_j.
          let within = slice_get_within calls j b at_j in
          let moved_apart = IsDistinct-IsPermutation same_number (λ x y. nat_eq_equiv.symm x.op.0 y.op.0) made calls moved apart in
          let test : same_number (get_or calls i a) (get_or calls j a) ≡ false =
          apart_from_distinct same_number calls i j a moved_apart less within in
          let left : get_or calls i a ≡ a = get_or_from_slice_get calls i a a at_i in
          let right : get_or calls j a ≡ b = get_or_from_slice_get calls j b a at_j in
          differ a b (rw (left, right) at test);
    }
