-- The pair of a key after an insertion, and after a put.
use Rattle.std.specs.Prelude.{◌≡◌, ◌≢◌, ℕ, Bool, true, false, List, Some, cond}
use Rattle.std.specs.Option.{unwrap_or}
use Rattle.std.specs.Ordering.{nat_cmp, is_eq, is_lt, eq_by_cmp}
use Rattle.std.specs.Cmp.{tied_itself}
use Rattle.std.specs.Cmp.Lexicographic.{slice_cmp, nat_list_cmp_total}
use Rattle.std.specs.FinMap as finite
use Rattle.std.specs.FinMap.{nat_cmp-IsAntisymmetric, slice_cmp-IsAntisymmetric}
use Rattle.std.proofs.Common.{◌⊎◌, ap, ◌∙◌, inl, inr, refl, sym, true≢false}
use Rattle.std.proofs.lemmas.Bool.{false_from_ne_true}
use Rattle.tag.proofs.Orderings.{equal_from_is_eq}
use Rattle.tag.specs.Tags.{tag_cmp}
use Rattle.replica.specs.Pairs.{Pair, Pairs, no_pair, pair_of, adopt}

-- ---- the pair of a key after an insertion
pub pair_of-insert : (pairs : Pairs) (key : List ℕ) (pair : Pair) (q : List ℕ)
    → pair_of (finite.insert pairs key pair) q
    ≡ cond (eq_by_cmp (slice_cmp nat_cmp) q key) pair (pair_of pairs q)
pair_of-insert pairs key pair q =
    ap (λ o. unwrap_or o no_pair) (finite.get-insert nat_list_cmp_total pairs key pair q)
    ∙ elim (eq_by_cmp (slice_cmp nat_cmp) q key) as
    (λ b. unwrap_or (cond b (Some pair) (finite.get pairs q)) no_pair
    ≡ cond b pair (pair_of pairs q)) [ true ↦ refl | false ↦ refl ]

pub pair_of-insert_same : (pairs : Pairs) (key : List ℕ) (pair : Pair)
    → pair_of (finite.insert pairs key pair) key ≡ pair
pair_of-insert_same pairs key pair = pair_of-insert pairs key pair key
    ∙ ap (λ o. cond (is_eq o) pair (pair_of pairs key)) (tied_itself nat_list_cmp_total key)

pub same_key : (q key : List ℕ) → eq_by_cmp (slice_cmp nat_cmp) q key ≡ true → q ≡ key
same_key q key e = slice_cmp-IsAntisymmetric nat_cmp-IsAntisymmetric q key (equal_from_is_eq _ e)

-- a key is another or not
pub same_key_or_not : (q key : List ℕ) → (q ≡ key) ⊎ (q ≢ key)
same_key_or_not q key = by (eq_by_cmp (slice_cmp nat_cmp) q key) refl
  where
    by : (b : Bool) → eq_by_cmp (slice_cmp nat_cmp) q key ≡ b → (q ≡ key) ⊎ (q ≢ key)
    by true e = inl (same_key q key e)
    by false e = inr (λ is.
        true≢false (sym (ap is_eq (tied_itself nat_list_cmp_total q))
        ∙ ap (λ k. eq_by_cmp (slice_cmp nat_cmp) q k) is ∙ e))

pub pair_of-insert_other : (pairs : Pairs) (key : List ℕ) (pair : Pair) (q : List ℕ) → q ≢ key
    → pair_of (finite.insert pairs key pair) q ≡ pair_of pairs q
pair_of-insert_other pairs key pair q apart = pair_of-insert pairs key pair q
    ∙ ap (λ b. cond b pair (pair_of pairs q))
    (false_from_ne_true (eq_by_cmp (slice_cmp nat_cmp) q key) (λ e. apart (same_key q key e)))

-- ---- the pair of a key after a put
pub pair_of-adopt_other : (pairs : Pairs) (key q : List ℕ) (pair : Pair) → q ≢ key
    → pair_of (adopt pairs key pair) q ≡ pair_of pairs q
pair_of-adopt_other pairs key q pair apart =
    elim (is_lt (tag_cmp (pair_of pairs key).tag pair.tag)) as
    (λ b. pair_of (cond b (finite.insert pairs key pair) pairs) q ≡ pair_of pairs q)
    [ true ↦ pair_of-insert_other pairs key pair q apart | false ↦ refl ]
