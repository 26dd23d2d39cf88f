-- Tree maps by number, seen as finite maps and as functions.
use Rattle.std.proofs.Common.{ℕ, ◌≡◌, ◌≢◌, true, false, refl, List, [], ◌∷◌, Option, Some, None, cond, ap, sym, ◌∙◌, arith}
use Rattle.std.proofs.lemmas.Grind.{common_steps}
use Rattle.std.specs.BTreeMap.{BTreeMap, UpdatesBy, is_at}
use Rattle.std.specs.Cmp.{nat_cmp_total}
use Rattle.std.specs.FinMap as finite
use Rattle.std.specs.FinMap.{find}
use Rattle.std.specs.Ordering.{nat_cmp, is_eq, eq_by_cmp}
use Rattle.open_calls.specs.Indexes.{entry_at}
use Rattle.open_calls.specs.Numbered.{Sets}

pub at_test : (k : ℕ) → is_at (nat_cmp k) k ≡ true
at_test k = grind (arith, common_steps)

pub apart_test : (k q : ℕ) → q ≢ k → is_at (nat_cmp k) q ≡ false
apart_test k q apart = grind (arith, common_steps)

same_test : (k : ℕ) → eq_by_cmp nat_cmp k k ≡ true
same_test k = grind (arith, common_steps)

module _ {X : Type 0} where
  find-lookup : (q : ℕ) (es : List (ℕ × X)) → find nat_cmp q es ≡ entry_at es q
  find-lookup q [] = refl
  find-lookup q (e ∷ es) = ap (cond (is_eq (nat_cmp q e.0)) (Some e.1)) (find-lookup q es)

  -- the finite map of entries has what they have
  pub get-entries : (es : List (ℕ × X)) (q : ℕ) → finite.get (finite.from_entries {R = nat_cmp} es) q ≡ entry_at es q
  get-entries es q = finite.get-from_entries nat_cmp_total es q ∙ find-lookup q es

  pub sets_from : (m n : BTreeMap ℕ X) (k : ℕ) (w : Option X) → UpdatesBy nat_cmp (nat_cmp k) m n w → Sets (entry_at m.entries) k w (entry_at n.entries)
  sets_from m n k w u = record { here = u.1; others = λ q apart. u.2 q (apart_test k q apart) }

  -- what a finite map has after a change
  pub sets-insert : (m : finite.FinMap nat_cmp X) (k : ℕ) (v : X) → Sets (finite.get m) k (Some v) (finite.get (finite.insert m k v))
  sets-insert m k v = record {
    here = finite.get-insert nat_cmp_total m k v k ∙ ap (λ b. cond b (Some v) (finite.get m k)) (same_test k);
    others = λ q apart. finite.get-insert nat_cmp_total m k v q ∙ ap (λ b. cond b (Some v) (finite.get m q)) (apart_test q k (λ e. apart (sym e)));
  }

  pub sets-remove : (m : finite.FinMap nat_cmp X) (k : ℕ) → Sets (finite.get m) k None (finite.get (finite.remove m k))
  sets-remove m k = record {
    here = finite.get-remove nat_cmp_total m k k ∙ ap (λ b. cond b None (finite.get m k)) (same_test k);
    others = λ q apart. finite.get-remove nat_cmp_total m k q ∙ ap (λ b. cond b None (finite.get m q)) (apart_test q k (λ e. apart (sym e)));
  }
