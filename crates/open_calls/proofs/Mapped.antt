-- Values by number, seen as a finite map.
use Rattle.std.proofs.Common.{ℕ, zero, suc, ◌≡◌, ◌+◌, ◌-◌, inl, inr, List, [], ◌∷◌, Option, Some, None, cond, is_some, ap, sym, ◌∙◌, refl}
use Rattle.std.proofs.lemmas.Bool.{cases_eq}
use Rattle.std.proofs.lemmas.Option.{none-some, same_Some}
use Rattle.std.specs.BTreeMap.{is_at}
use Rattle.std.specs.Cmp.{nat_cmp_total}
use Rattle.std.specs.FinMap as finite
use Rattle.std.specs.FinMap.{nat_cmp-IsAntisymmetric}
use Rattle.std.specs.Ordering.{nat_cmp}
use Rattle.open_calls.specs.declared.numbered.Numbered.{Numbered}
use Rattle.open_calls.specs.Indexes.{entry_at}
use Rattle.open_calls.specs.Numbered.{AreFit, AreHome, Sets, held_in, home_of, listed, map_of, or_else, slot_of, value_in}
use Rattle.open_calls.proofs.InSlots.{held_not, held_of}
use Rattle.open_calls.proofs.Maps.{apart_test, at_test, get-entries, sets-insert, sets-remove}

module _ {X : Type 0} where
  -- a number that stands in no slot is looked for among the others
  listed_misses : (slots : List (Option (ℕ × X))) (others : List (ℕ × X)) (q : ℕ) → ((place : ℕ) (value : X) → slot_of slots place ≡ Some (q, value) → ⊥) → entry_at (listed slots others) q ≡ entry_at others q
  listed_misses [] others q none = refl
  listed_misses (None ∷ slots) others q none = listed_misses slots others q (λ place value at. none (suc place) value at)
  listed_misses (Some e ∷ slots) others q none =
      ap (λ b. cond b (Some e.1) (entry_at (listed slots others) q)) (apart_test q e.0 (λ is. none zero e.1 (ap (λ n. Some (n, e.1)) is)))
      ∙ listed_misses slots others q (λ place value at. none (suc place) value at)

  -- one that stands in a slot is found there
  listed_hits : (slots : List (Option (ℕ × X))) (others : List (ℕ × X)) (q place : ℕ) (value : X) → slot_of slots place ≡ Some (q, value) → ((at : ℕ) (v : X) → slot_of slots at ≡ Some (q, v) → v ≡ value) → entry_at (listed slots others) q ≡ Some value
  listed_hits [] others q place value is one = absurd (none-some (q, value) is)
  listed_hits (None ∷ slots) others q zero value is one = absurd (none-some (q, value) is)
  listed_hits (None ∷ slots) others q (suc place) value is one = listed_hits slots others q place value is (λ at v there. one (suc at) v there)
  listed_hits (Some e ∷ slots) others q zero value is one =
      let same : e ≡ (q, value) = same_Some e (q, value) is in
      ap (λ (x : ℕ × X). entry_at (x ∷ listed slots others) q) same ∙ ap (λ b. cond b (Some value) (entry_at (listed slots others) q)) (at_test q)
  listed_hits (Some e ∷ slots) others q (suc place) value is one =
      let rest = listed_hits slots others q place value is (λ at v there. one (suc at) v there) in
      elim (cases_eq e.0 q) [
        | inl same ↦
            ap (λ n. cond (is_at (nat_cmp q) n) (Some e.1) (entry_at (listed slots others) q)) same
            ∙ (ap (λ b. cond b (Some e.1) (entry_at (listed slots others) q)) (at_test q) ∙ ap Some (one zero e.1 (ap (λ n. Some (n, e.1)) same)))
        | inr apart ↦ ap (λ b. cond b (Some e.1) (entry_at (listed slots others) q)) (apart_test q e.0 apart) ∙ rest
      ]

  module _ (slots : List (Option (ℕ × X))) (others : List (ℕ × X)) (fit : AreHome (slot_of slots) (entry_at others)) where
    not_there : (q : ℕ) → ((value : X) → slot_of slots (home_of q) ≡ Some (q, value) → ⊥) → (place : ℕ) (value : X) → slot_of slots place ≡ Some (q, value) → ⊥
    not_there q none place value at = none value (ap (slot_of slots) (fit.home place q value at) ∙ at)

    found_by : (q : ℕ) (slot : Option (ℕ × X)) → slot_of slots (home_of q) ≡ slot → entry_at (listed slots others) q ≡ or_else (held_in slot q) (entry_at others q)
    found_by q None is = listed_misses slots others q (not_there q (λ value at. none-some (q, value) (sym is ∙ at)))
    found_by q (Some e) is = elim (cases_eq e.0 q) [
      | inl same ↦
          listed_hits slots others q (home_of q) e.1 (is ∙ ap (λ n. Some (n, e.1)) same) (λ at v there.
          let here = ap (slot_of slots) (fit.home at q v there) ∙ there in
          ap (λ (x : ℕ × X). x.1) (sym (same_Some e (q, v) (sym is ∙ here))))
          ∙ ap (λ x. or_else x (entry_at others q)) (sym (held_of e q same))
      | inr apart ↦
          listed_misses slots others q (not_there q (λ value at. apart (ap (λ (x : ℕ × X). x.0) (same_Some e (q, value) (sym is ∙ at)))))
          ∙ ap (λ x. or_else x (entry_at others q)) (sym (held_not e q apart))
    ]

  pub get_map : (kept : Numbered X) → AreFit kept → (q : ℕ) → finite.get (map_of kept) q ≡ value_in kept q
  get_map kept fit q =
      get-entries (listed kept.slots.items kept.others.entries) q ∙ found_by kept.slots.items kept.others.entries fit q (slot_of kept.slots.items (home_of q)) refl

  -- ---- changes
  module _ (old new : Numbered X) (was : AreFit old) (is : AreFit new) where
    pub map_same : ((q : ℕ) → value_in new q ≡ value_in old q) → map_of new ≡ map_of old
    map_same same = finite.same_map nat_cmp_total nat_cmp-IsAntisymmetric _ _ (λ q. get_map new is q ∙ (same q ∙ sym (get_map old was q)))

    by : (k : ℕ) (w : Option X) (m : finite.FinMap nat_cmp X) → Sets (value_in old) k w (value_in new) → Sets (finite.get (map_of old)) k w (finite.get m) → map_of new ≡ m
    by k w m sets there = finite.same_map nat_cmp_total nat_cmp-IsAntisymmetric _ _ (λ q. get_map new is q ∙ elim (cases_eq q k) [
      | inl same ↦ ap (value_in new) same ∙ (sets.here ∙ (sym there.here ∙ ap (finite.get m) (sym same)))
      | inr apart ↦ sets.others q apart ∙ (sym (get_map old was q) ∙ sym (there.others q apart))
    ])

    pub map_put : (k : ℕ) (v : X) → Sets (value_in old) k (Some v) (value_in new) → map_of new ≡ finite.insert (map_of old) k v
    map_put k v sets = by k (Some v) (finite.insert (map_of old) k v) sets (sets-insert (map_of old) k v)

    pub map_gone : (k : ℕ) → Sets (value_in old) k None (value_in new) → map_of new ≡ finite.remove (map_of old) k
    map_gone k sets = by k None (finite.remove (map_of old) k) sets (sets-remove (map_of old) k)

    -- ---- how many there are
    pub count_put : (k : ℕ) (v : X) → value_in old k ≡ None → Sets (value_in old) k (Some v) (value_in new) → finite.len (map_of new) ≡ finite.len (map_of old) + 1
    count_put k v none sets =
        ap finite.len (map_put k v sets) ∙ (finite.len-insert nat_cmp_total (map_of old) k v
        ∙ ap (λ o. cond (is_some o) (finite.len (map_of old)) (finite.len (map_of old) + 1)) (get_map old was k ∙ none))

    pub count_again : (k : ℕ) (v w : X) → value_in old k ≡ Some w → Sets (value_in old) k (Some v) (value_in new) → finite.len (map_of new) ≡ finite.len (map_of old)
    count_again k v w there sets =
        ap finite.len (map_put k v sets) ∙ (finite.len-insert nat_cmp_total (map_of old) k v
        ∙ ap (λ o. cond (is_some o) (finite.len (map_of old)) (finite.len (map_of old) + 1)) (get_map old was k ∙ there))

    pub count_gone : (k : ℕ) (v : X) → value_in old k ≡ Some v → Sets (value_in old) k None (value_in new) → finite.len (map_of new) ≡ finite.len (map_of old) - 1
    count_gone k v there sets =
        ap finite.len (map_gone k sets) ∙ (finite.len-remove nat_cmp_total (map_of old) k
        ∙ ap (λ o. cond (is_some o) (finite.len (map_of old) - 1) (finite.len (map_of old))) (get_map old was k ∙ there))

  -- ---- none
  pub map_none : (kept : Numbered X) → AreFit kept → ((q : ℕ) → value_in kept q ≡ None) → map_of kept ≡ finite.empty
  map_none kept fit none = finite.same_map nat_cmp_total nat_cmp-IsAntisymmetric _ _ (λ q. get_map kept fit q ∙ (none q ∙ sym (finite.get-empty nat_cmp q)))
