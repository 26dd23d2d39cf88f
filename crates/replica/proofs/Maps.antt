-- A tree map, seen as the finite map of its entries.
use Rattle.std.proofs.Common.{◌≡◌, ◌+◌, Bool, true, false, ◌&&◌, not, suc, List, [], ◌∷◌, Option, Some}
use Rattle.std.proofs.Common.{None, IsSome, cond, is_some, length, ap, sym, ◌∙◌, refl, add-one}
use Rattle.std.specs.declared.cmp.Ordering.{Ordering}
use Rattle.std.specs.declared.cmp.Ordering.TheVariants.{Less}
use Rattle.std.specs.Ordering.{is_eq, eq_by_cmp}
use Rattle.std.specs.List.{AllByRecursion}
use Rattle.std.specs.List.Sorted.{IsStrictlySortedBy}
use Rattle.std.proofs.lemmas.Bool.{and_left, and_right, not-false, not-true}
use Rattle.std.proofs.lemmas.List.{nil_from_length}
use Rattle.std.proofs.lemmas.Map.Keys.{sorted_head, sorted_tail}
use Rattle.std.specs.Cmp.{IsTotalOrder, eq_by_cmp_equiv}
use Rattle.std.specs.Map.{lookup, keys_of}
use Rattle.std.specs.BTreeMap.{BTreeMap, IsOrdered, Updates, WritesThrough, is_at, get}
use Rattle.std.specs.Cmp.Lexicographic.{pointwise}
use Rattle.std.specs.FinMap as finite
use Rattle.std.specs.FinMap.{IsAntisymmetric, find, put}
use Rattle.std.specs.FinMap.Entries.{by_order}

module _ {K X : Type 0} {R : K → K → Ordering} (total : IsTotalOrder R) where
  -- both look along the entries for the first that the order ties with the key
  find-lookup : (q : K) (es : List (K × X)) → find R q es ≡ lookup (is_at (R q)) es
  find-lookup q [] = refl
  find-lookup q (e ∷ es) = ap (cond (is_eq (R q e.0)) (Some e.1)) (find-lookup q es)

  -- what the finite map has at a key is what the tree map has there
  pub get-from_tree : (m : BTreeMap K X) (q : K)
      → finite.get (finite.from_entries {R = R} m.entries) q ≡ get R m q
  get-from_tree m q = finite.get-from_entries total m.entries q ∙ find-lookup q m.entries

  -- a key ties with another as the other does with it
  tied : (k q : K) (w v : Option X) → cond (is_eq (R k q)) w v ≡ cond (eq_by_cmp R q k) w v
  tied k q w v = ap (λ b. cond b w v) ((eq_by_cmp_equiv total).symm k q)

  -- maps that answer alike are equal: after an insertion, and after a removal
  pub from_tree-insert : IsAntisymmetric R → (m n : BTreeMap K X) (k : K) (v : X)
      → Updates R m n k (Some v) → finite.from_entries {R = R} n.entries
      ≡ finite.insert (finite.from_entries m.entries) k v
  from_tree-insert apart m n k v updates =
      finite.same_map total apart _ _ (λ q. get-from_tree n q ∙ updates.0 q
      ∙ tied k q (Some v) (get R m q)
      ∙ ap (cond (eq_by_cmp R q k) (Some v)) (sym (get-from_tree m q))
      ∙ sym (finite.get-insert total (finite.from_entries m.entries) k v q))

  pub from_tree-remove : IsAntisymmetric R → (m n : BTreeMap K X) (k : K) → Updates R m n k None
      → finite.from_entries {R = R} n.entries ≡ finite.remove (finite.from_entries m.entries) k
  from_tree-remove apart m n k updates =
      finite.same_map total apart _ _ (λ q. get-from_tree n q ∙ updates.0 q
      ∙ tied k q None (get R m q) ∙ ap (cond (eq_by_cmp R q k) None) (sym (get-from_tree m q))
      ∙ sym (finite.get-remove total (finite.from_entries m.entries) k q))

  -- the same after a value is written in place
  pub from_tree-written : IsAntisymmetric R → (m n : BTreeMap K X) (k : K) (v : X)
      → WritesThrough R (R k) m v n → IsSome (get R m k) → finite.from_entries {R = R} n.entries
      ≡ finite.insert (finite.from_entries m.entries) k v
  from_tree-written apart m n k v written found = from_tree-insert apart m n k v (written.3 found)

  -- a key below all others is new
  find-below : (k : K) (es : List (K × X)) → AllByRecursion (λ q. R k q ≡ Less) (keys_of es)
      → find R k es ≡ None
  find-below k [] below = refl
  find-below k (e ∷ es) below =
      ap (λ o. cond (is_eq o) (Some e.1) (find R k es)) below.0 ∙ find-below k es below.1

  len-from_sorted : (es : List (K × X)) → IsStrictlySortedBy R (keys_of es)
      → finite.len (finite.from_entries {R = R} es) ≡ length es
  len-from_sorted [] sorted = finite.len-empty R X
  len-from_sorted (e ∷ es) sorted =
      finite.len-insert total (finite.from_entries es) e.0 e.1
      ∙ ap (λ o. cond (is_some o) (finite.len (finite.from_entries {R = R} es))
      (finite.len (finite.from_entries {R = R} es) + 1))
      (finite.get-from_entries total es e.0
      ∙ find-below e.0 es (sorted_head R e.0 (keys_of es) sorted))
      ∙ ap (λ n. n + 1) (len-from_sorted es (sorted_tail R e.0 (keys_of es) sorted))
      ∙ add-one (length es)

  -- both have as many entries
  pub from_tree-len : (m : BTreeMap K X) → IsOrdered R m
      → finite.len (finite.from_entries {R = R} m.entries) ≡ length m.entries
  from_tree-len m ordered = len-from_sorted m.entries ordered

  -- a key below all others comes first
  put-below : (k : K) (v : X) (es : List (K × X)) → AllByRecursion (λ q. R k q ≡ Less) (keys_of es)
      → put R k v es ≡ (k, v) ∷ es
  put-below k v [] below = refl
  put-below k v (e ∷ es) below =
      ap (λ o. by_order o ((k, v) ∷ e ∷ es) ((e.0, v) ∷ es) (e ∷ put R k v es)) below.0

  entries-from_list : (es : List (K × X)) → IsStrictlySortedBy R (keys_of es)
      → finite.entries (finite.from_entries {R = R} es) ≡ es
  entries-from_list [] sorted = nil_from_length (finite.entries (finite.empty {X = X} {R = R})) (sym
      (finite.len-entries (finite.empty {X = X} {R = R})) ∙ finite.len-empty R X)
  entries-from_list (e ∷ es) sorted =
      finite.entries-insert total (finite.from_entries es) e.0 e.1
      ∙ ap (put R e.0 e.1) (entries-from_list es (sorted_tail R e.0 (keys_of es) sorted))
      ∙ put-below e.0 e.1 es (sorted_head R e.0 (keys_of es) sorted)

  -- both have the same entries, in the keys' order
  pub entries-from_tree : (m : BTreeMap K X) → IsOrdered R m
      → finite.entries (finite.from_entries {R = R} m.entries) ≡ m.entries
  entries-from_tree m ordered = entries-from_list m.entries ordered

  -- entries compared in the trees are those compared in the maps
  pub pointwise-trees : (E : K × X → K × X → Bool) (m n : BTreeMap K X) → IsOrdered R m
      → IsOrdered R n
      → pointwise E (finite.entries (finite.from_entries {R = R} m.entries))
      (finite.entries (finite.from_entries {R = R} n.entries)) ≡ pointwise E m.entries n.entries
  pointwise-trees E m n m_ordered n_ordered =
      λ i. pointwise E (entries-from_tree m m_ordered i) (entries-from_tree n n_ordered i)

-- lists of two lengths differ
length-pointwise : {A : Type 0} (E : A → A → Bool) (xs ys : List A) → (length xs ≡ length ys → ⊥)
    → pointwise E xs ys ≡ false
length-pointwise E [] [] apart = absurd (apart refl)
length-pointwise E [] (y ∷ ys) apart = refl
length-pointwise E (x ∷ xs) [] apart = refl
length-pointwise E (x ∷ xs) (y ∷ ys) apart =
    ap (λ b. E x y && b) (length-pointwise E xs ys (λ e. apart (ap suc e))) ∙ and_right (E x y) false refl

-- ---- an equality of two parts: something in front, and two trees
module _ {K X : Type 0} {R : K → K → Ordering} (total : IsTotalOrder R) (E : K × X → K × X → Bool) (front : Bool) (m n : BTreeMap K X) where
  abbrev trees_alike : Bool
  trees_alike = pointwise E (finite.entries (finite.from_entries {R = R} m.entries)) (finite.entries (finite.from_entries {R = R} n.entries))

  -- the fronts differ
  pub apart_in_front : true ≡ not front → false ≡ (front && trees_alike)
  apart_in_front e = sym (and_left front trees_alike (not-true front (sym e)))

  -- trees of two sizes differ
  pub apart_in_size : IsOrdered R m → IsOrdered R n → (length m.entries ≡ length n.entries → ⊥) → false ≡ (front && trees_alike)
  apart_in_size m_ordered n_ordered apart =
      sym (and_right front trees_alike (pointwise-trees total E m n m_ordered n_ordered ∙ length-pointwise E m.entries n.entries apart))

  -- the fronts are equal: the entries decide
  pub alike_in_front : false ≡ not front → IsOrdered R m → IsOrdered R n → pointwise E m.entries n.entries ≡ (front && trees_alike)
  alike_in_front e m_ordered n_ordered =
      sym (pointwise-trees total E m n m_ordered n_ordered) ∙ sym (ap (λ b. b && trees_alike) (not-false front (sym e)))
