-- Maps as functions: what a change of one entry leaves.
use Rattle.std.proofs.Common.{ℕ, ◌≡◌, ◌≢◌, false, List, Option, Some, None, IsSome, String, cond, is_some, ap, sym, ◌∙◌, refl, arith}
use Rattle.std.proofs.lemmas.Bool.{false_from_ne_true}
use Rattle.std.proofs.lemmas.Grind.{common_steps}
use Rattle.std.proofs.lemmas.Map.Text.{btree_map_updates_text}
use Rattle.std.proofs.lemmas.Slice.Eq.{bytes_eq-Decides}
use Rattle.std.specs.BTreeMap.{BTreeMap, UpdatesBy, is_at}
use Rattle.std.specs.Cmp.Lexicographic.{slice_cmp}
use Rattle.std.specs.Ordering.{nat_cmp}
use Rattle.std.specs.Str.{bytes_eq}
use Rattle.std.specs.String.{string_bytes, string_cmp}
use Rattle.monitored_key.specs.Maps.{entry_at, text_at, Lacks, Sets}

pub there : {X : Type 0} (o : Option X) (v : X) → o ≡ Some v → IsSome o
there o v e = ap is_some e

pub found : {X : Type 0} (o : Option X) → IsSome o → (v : X) × (o ≡ Some v)
found None h = absurd cc
found (Some v) h = (v, refl)

pub none_unless : {X : Type 0} (o : Option X) → ((v : X) → o ≡ Some v → ⊥) → o ≡ None
none_unless None h = refl
none_unless (Some v) h = absurd (h v refl)

apart_test : (k q : ℕ) → q ≢ k → is_at (nat_cmp k) q ≡ false
apart_test k q apart = grind (arith, common_steps)

module _ {X : Type 0} where
  pub sets_entry : (m n : BTreeMap ℕ X) (k : ℕ) (v : X) → UpdatesBy nat_cmp (nat_cmp k) m n (Some v)
      → Sets (entry_at m.entries) k v (entry_at n.entries)
  sets_entry m n k v u = record { here = u.1; others = λ q apart. u.2 q (apart_test k q apart) }

  pub lacks_entry : (m n : BTreeMap ℕ X) (k : ℕ) → UpdatesBy nat_cmp (nat_cmp k) m n None
      → Lacks (entry_at m.entries) k (entry_at n.entries)
  lacks_entry m n k u = record { here = u.1; others = λ q apart. u.2 q (apart_test k q apart) }

module _ {X Y : Type 0} (m n : BTreeMap (String Y) X) (bs : List ℕ) (w : Option X)
    (u : UpdatesBy string_cmp (λ k. slice_cmp nat_cmp bs (string_bytes k)) m n w) where
  pub text_here : text_at n bs ≡ w
  text_here = btree_map_updates_text bs m n w u bs ∙ ap (λ b. cond b w (text_at m bs)) ((bytes_eq-Decides bs bs).1 refl)

  pub text_others : (cs : List ℕ) → cs ≢ bs → text_at n cs ≡ text_at m cs
  text_others cs apart =
      btree_map_updates_text bs m n w u cs
      ∙ ap (λ b. cond b w (text_at m cs)) (false_from_ne_true (bytes_eq bs cs) (λ e. apart (sym ((bytes_eq-Decides bs cs).0 e))))

pub sets_text : {X Y : Type 0} (m n : BTreeMap (String Y) X) (bs : List ℕ) (v : X)
    → UpdatesBy string_cmp (λ k. slice_cmp nat_cmp bs (string_bytes k)) m n (Some v) → Sets (text_at m) bs v (text_at n)
sets_text m n bs v u = record { here = text_here m n bs (Some v) u; others = text_others m n bs (Some v) u }

pub lacks_text : {X Y : Type 0} (m n : BTreeMap (String Y) X) (bs : List ℕ)
    → UpdatesBy string_cmp (λ k. slice_cmp nat_cmp bs (string_bytes k)) m n None → Lacks (text_at m) bs (text_at n)
lacks_text m n bs u = record { here = text_here m n bs None u; others = text_others m n bs None u }

-- what is set and then taken out
pub set_then_lacks : {K X : Type 0} (old : K → Option X) (k : K) (v : X) (mid new : K → Option X) → Sets old k v mid → Lacks mid k new
    → Lacks old k new
set_then_lacks old k v mid new s l = record { here = l.here; others = λ q apart. l.others q apart ∙ s.others q apart }
