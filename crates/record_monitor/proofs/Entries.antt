-- What a change of a map leaves at each number.
use Rattle.std.proofs.Common.{ℕ, ◌≡◌, ◌≢◌, inl, inr, false, Some, None, ap, sym, ◌∙◌, arith}
use Rattle.std.proofs.lemmas.Bool.{cases_eq}
use Rattle.std.proofs.lemmas.Grind.{common_steps}
use Rattle.std.specs.BTreeMap.{BTreeMap, UpdatesBy, is_at}
use Rattle.std.specs.Ordering.{nat_cmp}
use Rattle.monitored_key.specs.Maps.{entry_at, Lacks, Sets}

apart_test : (k q : ℕ) → q ≢ k → is_at (nat_cmp k) q ≡ false
apart_test k q apart = grind (arith, common_steps)

module _ {X : Type 0} where
  pub sets_entry : (m n : BTreeMap ℕ X) (k : ℕ) (v : X) → UpdatesBy nat_cmp (nat_cmp k) m n (Some v)
      → Sets (entry_at m.entries) k v (entry_at n.entries)
  sets_entry m n k v u = record { here = u.1; others = λ q apart. u.2 q (apart_test k q apart) }

  pub lacks_entry : (m n : BTreeMap ℕ X) (k : ℕ) → UpdatesBy nat_cmp (nat_cmp k) m n None
      → Lacks (entry_at m.entries) k (entry_at n.entries)
  lacks_entry m n k u = record { here = u.1; others = λ q apart. u.2 q (apart_test k q apart) }

-- what wasn't there leaves all as it was
pub still_entry : {X : Type 0} (m n : BTreeMap ℕ X) (k q : ℕ) → entry_at m.entries k ≡ None
    → Lacks (entry_at m.entries) k (entry_at n.entries) → entry_at n.entries q ≡ entry_at m.entries q
still_entry m n k q none lacks = elim (cases_eq q k) [
  | inl same ↦ ap (entry_at n.entries) same ∙ (lacks.here ∙ (sym none ∙ sym (ap (entry_at m.entries) same)))
  | inr apart ↦ lacks.others q apart
]
