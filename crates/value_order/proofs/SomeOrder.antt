-- Where no two families cross there is an order: the calls by their families, which needn't be sorted for that.
use Rattle.std.proofs.Common.{ℕ, zero, suc, ◌≡◌, ◌<◌, ◌≤◌, ◌+◌, inl, inr, List, [], ◌∷◌, ◌++◌, Option, Some, None, Bool, true, false, cond, IsPermutation, IsSorted, length, add-one, sym, ◌∙◌, ap, subst, refl, arith}
use Rattle.std.specs.List.{slice_get}
use Rattle.std.specs.Ordering.{is_lt, ordering_reverse}
use Rattle.std.specs.declared.cmp.Ordering.{Ordering}
use Rattle.std.specs.declared.cmp.Ordering.TheVariants.{Less, Equal, Greater}
use Rattle.std.proofs.lemmas.Bool.{cases_eq}
use Rattle.std.proofs.lemmas.List.Sorted.{IsPermutation-refl, IsPermutation-cons, IsPermutation-middle, IsPermutation-sym, IsPermutation-trans}
use Rattle.std.proofs.lemmas.Option.{same_Some, none-some}
use Rattle.tag.specs.declared.numbers.OpId.{OpId}
use Rattle.tag.proofs.Lists.{get_at}
use Rattle.recorder.specs.declared.part.Call.{Call}
use Rattle.recorder.specs.Parts.{IsSequence}
use Rattle.value_order.specs.declared.keys.SortKey.{SortKey}
use Rattle.value_order.specs.declared.sources.Source.{Source}
use Rattle.value_order.specs.declared.sources.Source.TheVariants as source
use Rattle.value_order.specs.declared.zones.Zone.{Zone}
use Rattle.value_order.specs.Keys.{key_cmp, IsByFamilies}
use Rattle.value_order.specs.SortKeys.{HaveZones, IsKept, IsKeyIf, AreSortKeys, AreKeysSorted, AreNumbersOf}
use Rattle.value_order.specs.Sources.{AreSources, family_of}
use Rattle.value_order.specs.Writers.{IsOnlyWriter}
use Rattle.value_order.specs.Zones.{rank_of}
use Rattle.value_order.proofs.KeyOrder.{key_cmp_total}
use Rattle.value_order.proofs.SortLists.{keys_none, keys_same, keys_more, numbers_none, numbers_more, numbers_all, index_within}

-- ---- the keys of calls

-- a call of no family, which reads something, isn't listed
unlisted : (zones : List Zone) (i : ℕ) (from : Source) → (from ≡ source.Nothing → ⊥) → family_of i from ≡ None → IsKept zones i from → ⊥
unlisted zones i from other none (inl e) = other e
unlisted zones i from other none (inr f) = none-some f.0 (sym none ∙ f.3)

-- a call of a family
member_key : (zones : List Zone) (i k : ℕ) (from : Source) → (from ≡ source.Nothing → ⊥) → family_of i from ≡ Some k → k < length zones → (o : Option SortKey) × IsKeyIf zones i from o
member_key zones i k from other family small = by zone.0.first_end refl
  where
    zone : (z : Zone) × (slice_get zones k ≡ Some z)
    zone = get_at zones k small

    none : zone.0.first_end ≡ None → IsKept zones i from → ⊥
    none e (inl n) = other n
    none e (inr f) =
        let same_k : f.0 ≡ k = same_Some f.0 k (sym f.3 ∙ family) in
        let same : f.1 ≡ zone.0 = same_Some f.1 zone.0 (sym f.4 ∙ (ap (slice_get zones) same_k ∙ zone.1)) in
        none-some f.2 (sym e ∙ (ap (λ (z : Zone). z.first_end) (sym same) ∙ f.5))

    key : (end : ℕ) → zone.0.first_end ≡ Some end → (o : Option SortKey) × IsKeyIf zones i from o
    key end e = elim (cases_eq k i) [
      | inl same ↦ (
        Some (record { rank = rank_of end zone.0.last_begin; family = k; is_read = false; index = i }),
        (
          refl,
          inr (record {
            family = family;
            ranked = record { zone = zone.0; end = end; at = zone.1; ends = e; rank = refl };
            reads = λ b. absurd (cc (b));
            writes = λ b. same;
          }),
        ),
      )
      | inr apart ↦ (
        Some (record { rank = rank_of end zone.0.last_begin; family = k; is_read = true; index = i }),
        (
          refl,
          inr (record {
            family = family;
            ranked = record { zone = zone.0; end = end; at = zone.1; ends = e; rank = refl };
            reads = λ b. apart;
            writes = λ b. absurd (cc (b));
          }),
        ),
      )
    ]

    by : (e : Option ℕ) → zone.0.first_end ≡ e → (o : Option SortKey) × IsKeyIf zones i from o
    by None e = (None, none e)
    by (Some end) e = key end e

key_of : (zones : List Zone) (i : ℕ) (from : Source) → ((k : ℕ) → family_of i from ≡ Some k → k < length zones) → (o : Option SortKey) × IsKeyIf zones i from o
key_of zones i source.Write has = member_key zones i i source.Write (λ e. cc (e)) refl (has i refl)
key_of zones i (source.Only k) has = member_key zones i k (source.Only k) (λ e. cc (e)) refl (has k refl)
key_of zones i (source.Doubt k m) has = (None, unlisted zones i (source.Doubt k m) (λ e. cc (e)) refl)
key_of zones i (source.Early k) has = (None, unlisted zones i (source.Early k) (λ e. cc (e)) refl)
key_of zones i source.Unwritten has = (None, unlisted zones i source.Unwritten (λ e. cc (e)) refl)
key_of zones i source.Nothing has = (Some (record { rank = 0; family = 0; is_read = true; index = i }), (refl, inl (refl, record { rank = refl; family = refl; reads = refl })))
key_of zones i source.Pending has = (None, unlisted zones i source.Pending (λ e. cc (e)) refl)

module _ (zones : List Zone) (sources : List Source) (have : HaveZones sources zones) where
  one_key : (n : ℕ) (from : Source) → slice_get sources n ≡ Some from → (keys : List SortKey) → AreSortKeys zones sources n keys → (o : Option SortKey) → IsKeyIf zones n from o → (more : List SortKey) × AreSortKeys zones sources (n + 1) more
  one_key n from at keys are None not = (keys, keys_same zones sources n from at keys are not)
  one_key n from at keys are (Some key) is = (keys ++ key ∷ [], keys_more zones sources n from at keys are key is)

  keys_below : (n : ℕ) → n ≤ length sources → (keys : List SortKey) × AreSortKeys zones sources n keys
  keys_below zero le = ([], keys_none zones sources [] refl)
  keys_below (suc n) le =
      let before = keys_below n (omega (arith, le)) in
      let from = get_at sources n (omega (arith, le)) in
      let key = key_of zones n from.0 (λ k family. have n k from.0 from.1 family) in
      let more = one_key n from.0 from.1 before.0 before.1 key.0 key.1 in
      (more.0, subst (λ (m : ℕ). AreSortKeys zones sources m more.0) (add-one n) more.1)

-- ---- sorted

-- the key before those that it isn't after
insert_key : SortKey → List SortKey → List SortKey
insert_key x [] = x ∷ []
insert_key x (y ∷ ys) = cond (is_lt (key_cmp y x)) (y ∷ insert_key x ys) (x ∷ y ∷ ys)

sort_keys : List SortKey → List SortKey
sort_keys [] = []
sort_keys (x ∷ xs) = insert_key x (sort_keys xs)

inserted_moves : (x : SortKey) (ys : List SortKey) → IsPermutation (x ∷ ys) (insert_key x ys)
unfolding insert_key
inserted_moves x [] = IsPermutation-refl (x ∷ [])
inserted_moves x (y ∷ ys) = by (inserted_moves x ys) (is_lt (key_cmp y x)) refl
  where
    by : IsPermutation (x ∷ ys) (insert_key x ys) → (b : Bool) → is_lt (key_cmp y x) ≡ b → IsPermutation (x ∷ y ∷ ys) (cond (is_lt (key_cmp y x)) (y ∷ insert_key x ys) (x ∷ y ∷ ys))
    by rest true e = subst (λ (b : Bool). IsPermutation (x ∷ y ∷ ys) (cond b (y ∷ insert_key x ys) (x ∷ y ∷ ys))) (sym e)
        (IsPermutation-trans (x ∷ y ∷ ys) (y ∷ x ∷ ys) (y ∷ insert_key x ys) (IsPermutation-sym (y ∷ x ∷ ys) (x ∷ y ∷ ys) (IsPermutation-middle (y ∷ []) x ys)) (IsPermutation-cons y (x ∷ ys) (insert_key x ys) rest))
    by rest false e = subst (λ (b : Bool). IsPermutation (x ∷ y ∷ ys) (cond b (y ∷ insert_key x ys) (x ∷ y ∷ ys))) (sym e) (IsPermutation-refl (x ∷ y ∷ ys))

sorted_moves : (xs : List SortKey) → IsPermutation xs (sort_keys xs)
unfolding sort_keys
sorted_moves [] = IsPermutation-refl []
sorted_moves (x ∷ xs) = IsPermutation-trans (x ∷ xs) (x ∷ sort_keys xs) (insert_key x (sort_keys xs)) (IsPermutation-cons x xs (sort_keys xs) (sorted_moves xs)) (inserted_moves x (sort_keys xs))

-- the first of the keys, if there is one, isn't before x
abbrev IsBelowFirst : SortKey → List SortKey → Type 0
IsBelowFirst x [] = Unit {0}
IsBelowFirst x (y ∷ ys) = is_lt (key_cmp y x) ≡ false

-- in order, key by key
abbrev IsAscending : List SortKey → Type 0
IsAscending [] = Unit {0}
IsAscending (x ∷ xs) = IsBelowFirst x xs × IsAscending xs

below_inserted : (y x : SortKey) (ys : List SortKey) → is_lt (key_cmp x y) ≡ false → IsBelowFirst y ys → IsBelowFirst y (insert_key x ys)
unfolding insert_key
below_inserted y x [] h below = h
below_inserted y x (z ∷ zs) h below = by (is_lt (key_cmp z x)) refl
  where
    by : (b : Bool) → is_lt (key_cmp z x) ≡ b → IsBelowFirst y (cond (is_lt (key_cmp z x)) (z ∷ insert_key x zs) (x ∷ z ∷ zs))
    by true e = subst (λ (b : Bool). IsBelowFirst y (cond b (z ∷ insert_key x zs) (x ∷ z ∷ zs))) (sym e) below
    by false e = subst (λ (b : Bool). IsBelowFirst y (cond b (z ∷ insert_key x zs) (x ∷ z ∷ zs))) (sym e) h

-- what is before another isn't after it
not_after : (o p : Ordering) → p ≡ ordering_reverse o → is_lt o ≡ true → is_lt p ≡ false
not_after Less p e h = ap is_lt e
not_after Equal p e h = absurd (cc (h))
not_after Greater p e h = absurd (cc (h))

inserted_ascends : (x : SortKey) (ys : List SortKey) → IsAscending ys → IsAscending (insert_key x ys)
unfolding insert_key
inserted_ascends x [] are = (tt, tt)
inserted_ascends x (y ∷ ys) are = by (inserted_ascends x ys are.1) (is_lt (key_cmp y x)) refl
  where
    by : IsAscending (insert_key x ys) → (b : Bool) → is_lt (key_cmp y x) ≡ b → IsAscending (cond (is_lt (key_cmp y x)) (y ∷ insert_key x ys) (x ∷ y ∷ ys))
    by rest true e = subst (λ (b : Bool). IsAscending (cond b (y ∷ insert_key x ys) (x ∷ y ∷ ys))) (sym e)
        (below_inserted y x ys (not_after (key_cmp y x) (key_cmp x y) (key_cmp_total.antisymm x y) e) are.0, rest)
    by rest false e = subst (λ (b : Bool). IsAscending (cond b (y ∷ insert_key x ys) (x ∷ y ∷ ys))) (sym e) (e, are)

sorted_ascends : (xs : List SortKey) → IsAscending (sort_keys xs)
unfolding sort_keys
sorted_ascends [] = tt
sorted_ascends (x ∷ xs) = inserted_ascends x (sort_keys xs) (sorted_ascends xs)

ascending_sorted : (xs : List SortKey) → IsAscending xs → IsSorted key_cmp xs
ascending_sorted [] are k d low high = absurd (omega (arith, high))
ascending_sorted (x ∷ []) are zero d low high = absurd (omega (arith, high))
ascending_sorted (x ∷ y ∷ ys) are zero d low high = are.0
ascending_sorted (x ∷ xs) are (suc k) d low high =
    let high : k + 1 < length xs = omega (arith, high) in
    let rest = ascending_sorted xs are.1 k d (omega arith) high in
    rw (add-one (suc k)) (rw (add-one k) at rest)

-- ---- an order by them

numbers_of : (part : List Call) (keys : List SortKey) → ((p : ℕ) (key : SortKey) → slice_get keys p ≡ Some key → key.index < length part) → (n : ℕ) → n ≤ length keys → (ops : List OpId) × AreNumbersOf part keys n ops
numbers_of part keys inside zero le = ([], numbers_none part keys [] refl)
numbers_of part keys inside (suc n) le =
    let before = numbers_of part keys inside n (omega (arith, le)) in
    let key = get_at keys n (omega (arith, le)) in
    let call = get_at part key.0.index (inside n key.0 key.1) in
    let more = numbers_more part keys n before.0 key.0 call.0.op key.1 (call.0, call.1, refl) before.1 in
    (before.0 ++ call.0.op ∷ [], subst (λ (m : ℕ). AreNumbersOf part keys m (before.0 ++ call.0.op ∷ [])) (add-one n) more)

pub some_order : (part : List Call) → IsSequence part → (sources : List Source) → AreSources part sources → (zones : List Zone) → HaveZones sources zones → (order : List OpId) × IsByFamilies part (IsOnlyWriter part) zones order
some_order part sequence sources of zones have =
    let made = keys_below zones sources have (length sources) (omega arith) in
    let keys = sort_keys made.0 in
    let sorted : AreKeysSorted zones sources keys = record { made = made.0; are = made.1; moved = sorted_moves made.0; sorted = ascending_sorted keys (sorted_ascends made.0) } in
    let ops = numbers_of part keys (index_within part sources zones keys of sorted) (length keys) (omega arith) in
    (ops.0, numbers_all part sequence sources zones keys ops.0 of sorted ops.1)
