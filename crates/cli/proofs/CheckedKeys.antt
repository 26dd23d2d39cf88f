-- What is checked of the keys, by place.
use Rattle.std.proofs.Common.{ℕ, zero, suc, ◌≡◌, ◌⊎◌, inl, inr, Bool, true, false, cond, List, [], ◌∷◌, ◌++◌, Some, map, filter, refl, sym, ap, ◌∙◌}
use Rattle.std.specs.List.{slice_get}
use Rattle.tag.proofs.Lists.{in_either, slice_get-append_left, slice_get-map_at, slice_get-map_back}
use Rattle.recorder.specs.declared.part.Call.{Call}
use Rattle.recorder.specs.declared.order.KeyOrder.{KeyOrder}
use Rattle.parallel_keys.specs.CheckedKeys.{CheckedKey, KeyParts, is_other, checked_keys, other_key, recorded_key}

-- what stands in the second of two lists stands in both together
at_second : {X : Type 0} (xs ys : List X) (i : ℕ) (x : X) → slice_get ys i ≡ Some x → (k : ℕ) × (slice_get (xs ++ ys) k ≡ Some x)
at_second [] ys i x h = (i, h)
at_second (y ∷ xs) ys i x h = let later = at_second xs ys i x h in (suc later.0, later.1)

-- what passes a test stands among what passes it
kept_at : {X : Type 0} (p : X → Bool) (xs : List X) (i : ℕ) (x : X) → slice_get xs i ≡ Some x → p x ≡ true → (k : ℕ) × (slice_get (filter p xs) k ≡ Some x)
kept_at p [] i x h passes = absurd (cc)
kept_at {X} p (y ∷ xs) zero x h passes =
    let is : y ≡ x = cc in
    let hit : p y ≡ true = ap p is ∙ passes in
    (0, ap (λ (b : Bool). slice_get (cond b (y ∷ filter p xs) (filter p xs)) 0) hit ∙ h)
kept_at {X} p (y ∷ xs) (suc i) x h passes = by (p y) refl (kept_at p xs i x h passes)
  where
    by : (b : Bool) → p y ≡ b → ((k : ℕ) × (slice_get (filter p xs) k ≡ Some x)) → (k : ℕ) × (slice_get (cond (p y) (y ∷ filter p xs) (filter p xs)) k ≡ Some x)
    by true hit (k, at) = (suc k, ap (λ (b : Bool). slice_get (cond b (y ∷ filter p xs) (filter p xs)) (suc k)) hit ∙ at)
    by false missed (k, at) = (k, ap (λ (b : Bool). slice_get (cond b (y ∷ filter p xs) (filter p xs)) k) missed ∙ at)

of_kept : {X : Type 0} (p : X → Bool) (xs : List X) (k : ℕ) (x : X) → slice_get (filter p xs) k ≡ Some x → (i : ℕ) × (slice_get xs i ≡ Some x) × (p x ≡ true)
of_kept p [] k x h = absurd (cc)
of_kept {X} p (y ∷ xs) k x h = by (p y) refl k (λ k h. of_kept p xs k x h) h
  where
    by : (b : Bool) → p y ≡ b → (k : ℕ) → ((k : ℕ) → slice_get (filter p xs) k ≡ Some x → (i : ℕ) × (slice_get xs i ≡ Some x) × (p x ≡ true)) → slice_get (cond b (y ∷ filter p xs) (filter p xs)) k ≡ Some x → (i : ℕ) × (slice_get (y ∷ xs) i ≡ Some x) × (p x ≡ true)
    by true hit zero later at = let is : y ≡ x = cc in (0, at, sym (ap p is) ∙ hit)
    by true hit (suc k) later at = let found = later k at in (suc found.0, found.1, found.2)
    by false missed k later at = let found = later k at in (suc found.0, found.1, found.2)

module _ (parts : KeyParts) (orders : List KeyOrder) where
  -- a key that has a part is checked, and one that only the orders have
  pub recorded_at : (i : ℕ) (entry : List ℕ × List Call) → slice_get parts i ≡ Some entry → (k : ℕ) × (slice_get (checked_keys parts orders) k ≡ Some (recorded_key orders entry))
  recorded_at i entry at = (i, slice_get-append_left (map (recorded_key orders) parts) (map other_key (filter (is_other parts) orders)) i (recorded_key orders entry) (slice_get-map_at (recorded_key orders) parts i entry at))

  pub other_at : (i : ℕ) (one : KeyOrder) → slice_get orders i ≡ Some one → is_other parts one ≡ true → (k : ℕ) × (slice_get (checked_keys parts orders) k ≡ Some (other_key one))
  other_at i one at other =
      let kept = kept_at (is_other parts) orders i one at other in
      at_second (map (recorded_key orders) parts) (map other_key (filter (is_other parts) orders)) kept.0 (other_key one) (slice_get-map_at other_key (filter (is_other parts) orders) kept.0 one kept.1)

  -- a key that is checked is one or the other
  pub checked_of : (k : ℕ) (one : CheckedKey) → slice_get (checked_keys parts orders) k ≡ Some one
      → ((i : ℕ) × (entry : List ℕ × List Call) × (slice_get parts i ≡ Some entry) × (recorded_key orders entry ≡ one))
      ⊎ ((i : ℕ) × (order : KeyOrder) × (slice_get orders i ≡ Some order) × (is_other parts order ≡ true) × (other_key order ≡ one))
  checked_of k one at = elim (in_either (map (recorded_key orders) parts) (map other_key (filter (is_other parts) orders)) k one at) [
    | inl w ↦ let made = slice_get-map_back (recorded_key orders) parts k one w in inl (k, made.0, made.1, made.2)
    | inr w ↦
        let made = slice_get-map_back other_key (filter (is_other parts) orders) w.0 one w.1 in
        let kept = of_kept (is_other parts) orders w.0 made.0 made.1 in
        inr (kept.0, made.0, kept.1, kept.2, made.2)
  ]
