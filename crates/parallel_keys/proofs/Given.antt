-- The first order that a list gives for a key.
use Rattle.std.proofs.Common.{ℕ, ◌≡◌, inl, inr, Bool, true, false, cond, List, [], ◌∷◌, ◌++◌, Option, None, Some, is_some, length, get_or, ◌<◌, subst, refl, sym, ap, ◌∙◌, set, length-set}
use Rattle.std.specs.Borrow.{Bor}
use Rattle.std.specs.List.{slice_get, Contains}
use Rattle.std.specs.Option.{option_map, unwrap_or}
use Rattle.std.specs.Str.{bytes_eq}
use Rattle.std.specs.Cmp.Lexicographic.{bytes_decides}
use Rattle.std.proofs.lemmas.Bool.{cases_eq}
use Rattle.std.proofs.lemmas.Option.{none-some, same_Some, slice_get_read, slice_get_within}
use Rattle.tag.specs.declared.numbers.OpId.{OpId}
use Rattle.key_index.specs.Numbers.{IsPlace}
use Rattle.recorder.specs.declared.order.KeyOrder.{KeyOrder}
use Rattle.tag.proofs.Lists.{Contains-slice_get, slice_get-set}
use Rattle.parallel_keys.specs.CheckedKeys.{given_order}
use Rattle.parallel_keys.specs.KeysToCheck.{AreFirstOrders, first_order}

-- a key's order is the first of them, or the empty one
given_first : (orders : List KeyOrder) (key : List ℕ) → unwrap_or (first_order orders key) [] ≡ given_order orders key
given_first [] key = refl
given_first (o ∷ os) key = by (bytes_eq o.key key) (given_first os key)
  where
    by : (b : Bool) → unwrap_or (first_order os key) [] ≡ given_order os key → unwrap_or (cond b (Some o.order) (first_order os key)) [] ≡ cond b o.order (given_order os key)
    by true later = refl
    by false later = later

pub given_at_hand : (found : Option (Bor (List OpId))) (default : Bor (List OpId)) (orders : List KeyOrder) (key : List ℕ) → default.now ≡ [] → option_map (λ o. o.now) found ≡ first_order orders key → (unwrap_or found default).now ≡ given_order orders key
given_at_hand None default orders key none is = none ∙ ap (λ (o : Option (List OpId)). unwrap_or o []) is ∙ given_first orders key
given_at_hand (Some order) default orders key none is = ap (λ (o : Option (List OpId)). unwrap_or o []) is ∙ given_first orders key

-- one order more: a key that has an order keeps it
first_kept : (orders : List KeyOrder) (one : KeyOrder) (key : List ℕ) (order : List OpId) → first_order orders key ≡ Some order → first_order (orders ++ one ∷ []) key ≡ Some order
first_kept [] one key order h = absurd (none-some order h)
first_kept (o ∷ os) one key order h = by (bytes_eq o.key key) (first_kept os one key order) h
  where
    by : (b : Bool) → (first_order os key ≡ Some order → first_order (os ++ one ∷ []) key ≡ Some order) → cond b (Some o.order) (first_order os key) ≡ Some order → cond b (Some o.order) (first_order (os ++ one ∷ []) key) ≡ Some order
    by true later is = is
    by false later is = later is

-- one order more: other keys have the orders that they had
first_other : (orders : List KeyOrder) (one : KeyOrder) (key : List ℕ) → (one.key ≡ key → ⊥) → first_order (orders ++ one ∷ []) key ≡ first_order orders key
first_other [] one key other = by (bytes_eq one.key key) refl
  where
    by : (b : Bool) → bytes_eq one.key key ≡ b → cond (bytes_eq one.key key) (Some one.order) None ≡ None
    by true hit = absurd (other ((bytes_decides one.key key).0 hit))
    by false missed = ap (λ (b : Bool). cond b (Some one.order) None) missed
first_other (o ∷ os) one key other = by (bytes_eq o.key key) (first_other os one key other)
  where
    by : (b : Bool) → first_order (os ++ one ∷ []) key ≡ first_order os key → cond b (Some o.order) (first_order (os ++ one ∷ []) key) ≡ cond b (Some o.order) (first_order os key)
    by true later = refl
    by false later = later

-- one order more: a key that had none has it
first_new : (orders : List KeyOrder) (one : KeyOrder) (key : List ℕ) → one.key ≡ key → None ≡ first_order orders key → first_order (orders ++ one ∷ []) key ≡ Some one.order
first_new [] one key same none = ap (λ (b : Bool). cond b (Some one.order) None) ((bytes_decides one.key key).1 same)
first_new (o ∷ os) one key same none = by (bytes_eq o.key key) (first_new os one key same) none
  where
    by : (b : Bool) → (None ≡ first_order os key → first_order (os ++ one ∷ []) key ≡ Some one.order) → None ≡ cond b (Some o.order) (first_order os key) → cond b (Some o.order) (first_order (os ++ one ∷ []) key) ≡ Some one.order
    by true later is = absurd (none-some o.order is)
    by false later is = later is

-- one order more, of a key that had none
pub first_put : (keys : List (List ℕ)) (orders : List KeyOrder) (one : KeyOrder) (old new : List (Option (Bor (List OpId)))) (number : ℕ) (order : Bor (List OpId)) → AreFirstOrders keys orders old → slice_get keys number ≡ Some one.key → slice_get old number ≡ Some None → order.now ≡ one.order → new ≡ set old number (Some order) → AreFirstOrders keys (orders ++ one ∷ []) new
first_put keys orders one old new number order are at empty is put = record {
  once = are.once;
  all = ap length put ∙ length-set old number (Some order) ∙ are.all;
  each = λ n key found at_key at_found.
      let written : slice_get (set old number (Some order)) n ≡ Some found = subst (λ (l : List (Option (Bor (List OpId)))). slice_get l n ≡ Some found) put at_found in
      elim (slice_get-set old number n (Some order) (slice_get_within old number None empty)) [
        | inl w ↦
            let same : one.key ≡ key = same_Some one.key key (sym at ∙ ap (slice_get keys) (sym w.0) ∙ at_key) in
            let none : None ≡ first_order orders key = are.each number key None (ap (slice_get keys) (sym w.0) ∙ at_key) empty in
            let found_is : Some order ≡ found = same_Some (Some order) found (sym w.1 ∙ written) in
            ap (option_map (λ (o : Bor (List OpId)). o.now)) (sym found_is) ∙ ap Some is ∙ sym (first_new orders one key same none)
        | inr w ↦ are.each n key found at_key (sym w.1 ∙ written) ∙ sym (first_other orders one key (λ same. w.0 (are.once n number key at_key (at ∙ ap Some same))))
      ];
}

-- one order more, of a key that has one
pub first_stays : (keys : List (List ℕ)) (orders : List KeyOrder) (one : KeyOrder) (given : List (Option (Bor (List OpId)))) (number : ℕ) (order : Bor (List OpId)) → AreFirstOrders keys orders given → slice_get keys number ≡ Some one.key → slice_get given number ≡ Some (Some order) → AreFirstOrders keys (orders ++ one ∷ []) given
first_stays keys orders one given number order are at taken = record {
  once = are.once;
  all = are.all;
  each = λ n key found at_key at_found. elim (cases_eq n number) [
    | inl w ↦
        let here : first_order orders key ≡ Some order.now = sym (are.each number key (Some order) (ap (slice_get keys) (sym w) ∙ at_key) taken) in
        are.each n key found at_key at_found ∙ here ∙ sym (first_kept orders one key order.now here)
    | inr w ↦ are.each n key found at_key at_found ∙ sym (first_other orders one key (λ same. w (are.once n number key at_key (at ∙ ap Some same))))
  ];
}

-- one order more, of no such key
pub first_passed : (keys : List (List ℕ)) (orders : List KeyOrder) (one : KeyOrder) (given : List (Option (Bor (List OpId)))) → AreFirstOrders keys orders given → (Contains keys one.key → ⊥) → AreFirstOrders keys (orders ++ one ∷ []) given
first_passed keys orders one given are unknown = record {
  once = are.once;
  all = are.all;
  each = λ n key found at_key at_found. are.each n key found at_key at_found ∙ sym (first_other orders one key (λ same. unknown (Contains-slice_get keys n one.key (at_key ∙ ap Some (sym same)))));
}

-- whether there is an order at a key's place
pub empty_at : (given : List (Option (Bor (List OpId)))) (number : ℕ) (found : Option (Bor (List OpId))) → number < length given → found ≡ get_or given number found → is_some found ≡ false → slice_get given number ≡ Some None
empty_at given number None below is none = slice_get_read given (length given) number None refl below is
empty_at given number (Some order) below is none = absurd (cc)

pub taken_at : (given : List (Option (Bor (List OpId)))) (number : ℕ) (found : Option (Bor (List OpId))) → number < length given → found ≡ get_or given number found → is_some found ≡ true → (order : Bor (List OpId)) × (slice_get given number ≡ Some (Some order))
taken_at given number None below is some = absurd (cc)
taken_at given number (Some order) below is some = (order, slice_get_read given (length given) number (Some order) refl below is)

-- a key that a look-up finds nowhere is not among the keys
pub not_found : (keys : List (List ℕ)) (key : List ℕ) (found : Option ℕ) → IsPlace keys key found → ((number : ℕ) → found ≡ Some number → ⊥) → Contains keys key → ⊥
not_found keys key None place other = place
not_found keys key (Some number) place other = absurd (other number refl)
