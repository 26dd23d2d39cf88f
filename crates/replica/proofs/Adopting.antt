-- The pairs of a replica, read from the tree that keeps them.
use Rattle.std.proofs.Common.{◌≡◌, ℕ, true, false, List, Option, Some, None, cond, unwrap_or, ap, sym, subst, ◌∙◌, refl}
use Rattle.std.specs.Ordering.{nat_cmp, is_lt, is_ge}
use Rattle.std.specs.declared.cmp.Ordering.{Ordering}
use Rattle.std.specs.declared.cmp.Ordering.TheVariants.{Less, Equal, Greater}
use Rattle.std.specs.Cmp.Lexicographic.{slice_cmp, nat_list_cmp_total}
use Rattle.std.specs.BTreeMap.{BTreeMap, Updates, get}
use Rattle.std.specs.FinMap as finite
use Rattle.std.specs.FinMap.{nat_cmp-IsAntisymmetric, slice_cmp-IsAntisymmetric}
use Rattle.tag.specs.Tags.{Tag, tag_cmp}
use Rattle.replica.specs.Pairs.{Pair, Pairs, no_pair, pair_of, adopt}
use Rattle.replica.proofs.Maps.{get-from_tree, from_tree-insert}

abbrev pub Tree : Type 0
Tree = BTreeMap (List ℕ) Pair

-- the pairs that a tree keeps
abbrev pub pairs_in : Tree → Pairs
pairs_in tree = finite.from_entries tree.entries

pub pair_found : (tree : Tree) (key : List ℕ) (pair : Pair) → Some pair ≡ get (slice_cmp nat_cmp) tree key → pair ≡ pair_of (pairs_in tree) key
pair_found tree key pair e = ap (λ o. unwrap_or o no_pair) (e ∙ sym (get-from_tree nat_list_cmp_total tree key))

pub pair_missed : (tree : Tree) (key : List ℕ) → None ≡ get (slice_cmp nat_cmp) tree key → no_pair ≡ pair_of (pairs_in tree) key
pair_missed tree key e = ap (λ o. unwrap_or o no_pair) (e ∙ sym (get-from_tree nat_list_cmp_total tree key))

below : (o : Ordering) → is_ge o ≡ false → is_lt o ≡ true
below Less e = refl
below Equal e = sym e
below Greater e = sym e

-- a pair whose tag is above the key's own is inserted
pub adopt-above : (old new : Tree) (key : List ℕ) (pair : Pair) (own : Tag) → own ≡ (pair_of (pairs_in old) key).tag → false ≡ is_ge (tag_cmp own pair.tag)
    → Updates (slice_cmp nat_cmp) old new key (Some pair) → pairs_in new ≡ adopt (pairs_in old) key pair
adopt-above old new key pair own held e updates =
    from_tree-insert nat_list_cmp_total (slice_cmp-IsAntisymmetric nat_cmp-IsAntisymmetric) old new key pair updates
    ∙ ap (λ b. cond b (finite.insert (pairs_in old) key pair) (pairs_in old)) (sym (below _ (ap (λ t. is_ge (tag_cmp t pair.tag)) (sym held) ∙ sym e)))

-- the same of a copy of the key and of the value
pub adopt-copied : (old new : Tree) (key copied_key : List ℕ) (tag own : Tag) (value copied_value : Option (List ℕ))
    → copied_key ≡ key → copied_value ≡ value → own ≡ (pair_of (pairs_in old) key).tag → false ≡ is_ge (tag_cmp own tag)
    → Updates (slice_cmp nat_cmp) old new copied_key (Some (record { tag = tag; value = copied_value })) → pairs_in new ≡ adopt (pairs_in old) key (record { tag = tag; value = value })
adopt-copied old new key copied_key tag own value copied_value k v held e updates =
    adopt-above old new key (record { tag = tag; value = value }) own held e
    (subst (λ w. Updates (slice_cmp nat_cmp) old new key (Some (record { tag = tag; value = w }))) v
    (subst (λ q. Updates (slice_cmp nat_cmp) old new q (Some (record { tag = tag; value = copied_value }))) k updates))
