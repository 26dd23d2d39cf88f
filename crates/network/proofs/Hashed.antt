-- A hash map, seen as the finite map of its entries.
use Rattle.std.proofs.Common.{◌≡◌, ◌+◌, List, [], ◌∷◌, Option, Some, None, IsSome, Bool, false, cond, is_some, length, ap, sym, ◌∙◌, refl, add-one}
use Rattle.std.specs.declared.cmp.Ordering.{Ordering}
use Rattle.std.specs.Ordering.{is_eq, eq_by_cmp}
use Rattle.std.specs.List.{AllByRecursion, IsDistinct}
use Rattle.std.proofs.lemmas.Map.Keys.{IsDistinct-head, IsDistinct-tail}
use Rattle.std.specs.Cmp.{IsTotalOrder, eq_by_cmp_equiv}
use Rattle.std.specs.Map.{lookup, keys_of}
use Rattle.std.specs.HashMap.{HashMap, IsUnique, Updates, WritesThrough, get}
use Rattle.std.specs.FinMap as finite
use Rattle.std.specs.FinMap.{IsAntisymmetric, find}

module _ {K X : Type 0} {R : K → K → Ordering} (total : IsTotalOrder R) (eq : K → K → Bool) (ties : (x y : K) → is_eq (R x y) ≡ eq x y) where
  -- both look along the entries for the first key that is equal
  find-lookup : (q : K) (es : List (K × X)) → find R q es ≡ lookup (eq q) es
  find-lookup q [] = refl
  find-lookup q (e ∷ es) = ap (λ b. cond b (Some e.1) (find R q es)) (ties q e.0) ∙ ap (cond (eq q e.0) (Some e.1)) (find-lookup q es)

  -- what the finite map has at a key is what the hash map has there
  pub get-from_table : {S : Type 0} → (m : HashMap K X S) (q : K) → finite.get (finite.from_entries {R = R} m.entries) q ≡ get eq m q
  get-from_table m q = finite.get-from_entries total m.entries q ∙ find-lookup q m.entries

  -- a key is equal to another as the other is to it
  tied : (k q : K) (w v : Option X) → cond (eq k q) w v ≡ cond (eq_by_cmp R q k) w v
  tied k q w v = ap (λ b. cond b w v) (sym (ties k q)) ∙ ap (λ b. cond b w v) ((eq_by_cmp_equiv total).symm k q)

  -- maps that answer alike are equal: after an insertion, and after a removal
  pub from_table-insert : {S : Type 0} → IsAntisymmetric R → (m n : HashMap K X S) (k : K) (v : X) → Updates eq m n k (Some v) → finite.from_entries {R = R} n.entries ≡ finite.insert (finite.from_entries m.entries) k v
  from_table-insert apart m n k v updates =
      finite.same_map total apart _ _ (λ q. get-from_table n q ∙ updates.0 q ∙ tied k q (Some v) (get eq m q) ∙ ap (cond (eq_by_cmp R q k) (Some v)) (sym (get-from_table m q)) ∙ sym (finite.get-insert total (finite.from_entries m.entries) k v q))

  pub from_table-remove : {S : Type 0} → IsAntisymmetric R → (m n : HashMap K X S) (k : K) → Updates eq m n k None → finite.from_entries {R = R} n.entries ≡ finite.remove (finite.from_entries m.entries) k
  from_table-remove apart m n k updates =
      finite.same_map total apart _ _ (λ q. get-from_table n q ∙ updates.0 q ∙ tied k q None (get eq m q) ∙ ap (cond (eq_by_cmp R q k) None) (sym (get-from_table m q)) ∙ sym (finite.get-remove total (finite.from_entries m.entries) k q))

  -- the same after a value is written in place
  pub from_table-written : {S : Type 0} → IsAntisymmetric R → (m n : HashMap K X S) (k : K) (v : X) → WritesThrough eq (eq k) m v n → IsSome (get eq m k) → finite.from_entries {R = R} n.entries ≡ finite.insert (finite.from_entries m.entries) k v
  from_table-written apart m n k v written found = from_table-insert apart m n k v (written.3 found)

  -- a key that is equal to none is new
  find-other : (k : K) (es : List (K × X)) → AllByRecursion (λ q. eq k q ≡ false) (keys_of es) → find R k es ≡ None
  find-other k [] other = refl
  find-other k (e ∷ es) other = ap (λ b. cond b (Some e.1) (find R k es)) (ties k e.0 ∙ other.0) ∙ find-other k es other.1

  len-from_distinct : (es : List (K × X)) → IsDistinct eq (keys_of es) → finite.len (finite.from_entries {R = R} es) ≡ length es
  len-from_distinct [] distinct = finite.len-empty R X
  len-from_distinct (e ∷ es) distinct =
      finite.len-insert total (finite.from_entries es) e.0 e.1
      ∙ ap (λ o. cond (is_some o) (finite.len (finite.from_entries {R = R} es)) (finite.len (finite.from_entries {R = R} es) + 1))
      (finite.get-from_entries total es e.0 ∙ find-other e.0 es (IsDistinct-head eq e.0 (keys_of es) distinct))
      ∙ ap (λ n. n + 1) (len-from_distinct es (IsDistinct-tail eq e.0 (keys_of es) distinct))
      ∙ add-one (length es)

  -- both have as many entries
  pub from_table-len : {S : Type 0} → (m : HashMap K X S) → IsUnique eq m → finite.len (finite.from_entries {R = R} m.entries) ≡ length m.entries
  from_table-len m unique = len-from_distinct m.entries unique
