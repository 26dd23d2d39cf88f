-- Keys that have parts, and those that only orders have.
use Rattle.std.proofs.Common.{append-nil, ℕ, ◌≡◌, inl, inr, Bool, true, false, cond, List, [], ◌∷◌, ◌++◌, Option, Some, None, is_none, length, map, filter, take, get_or, ◌+◌, ◌<◌, subst, refl, sym, ap, ap₂, ◌∙◌, append_assoc, arith}
use Rattle.std.specs.List.{slice_get, Contains}
use Rattle.std.specs.Str.{bytes_eq}
use Rattle.std.specs.Map.{lookup}
use Rattle.std.specs.Cmp.Lexicographic.{bytes_decides}
use Rattle.std.proofs.lemmas.List.{map-append}
use Rattle.std.proofs.lemmas.List.Elements.{filter-append, Contains-append_left, Contains-append_right, Contains-append_cases, Contains-push, Contains-push_cases}
use Rattle.tag.specs.declared.numbers.OpId.{OpId}
use Rattle.recorder.specs.declared.part.Call.{Call}
use Rattle.recorder.specs.declared.order.KeyOrder.{KeyOrder}
use Rattle.tag.proofs.Lists.{Contains-slice_get, push_cases, slice_get-push_last, slice_get-push_left}
use Rattle.key_index.specs.Numbers.{Numbers, known, first}
use Rattle.parallel_keys.specs.declared.collect_keys.NumberedKey.{NumberedKey}
use Rattle.parallel_keys.specs.CheckedKeys.{CheckedKey, KeyParts, all_parts, given_order, is_other, keys_in, recorded_key}
use Rattle.parallel_keys.specs.KeysToCheck.{AreNumbered, HasKeys, entry_of}
use Rattle.parallel_keys.proofs.Fronts.{front_at, mapped_more}

-- a key more
has_more : (old new others : List (List ℕ)) (key : List ℕ) (number : ℕ) → HasKeys old others → Numbers old key number new → HasKeys new (others ++ key ∷ [])
has_more old new others key number has (known at same) = record {
  of_others = λ k h. Contains-append_left others (key ∷ []) k (has.of_others k (subst (λ (l : List (List ℕ)). Contains l k) same h));
  all = λ k h. subst (λ (l : List (List ℕ)). Contains l k) (sym same) (elim (Contains-push_cases others key k h) [
    | inl w ↦ has.all k w
    | inr w ↦ subst (λ (x : List ℕ). Contains old x) w (Contains-slice_get old number key at)
  ]);
}
has_more old new others key number has (first unseen place grown) = record {
  of_others = λ k h. elim (Contains-push_cases old key k (subst (λ (l : List (List ℕ)). Contains l k) grown h)) [
    | inl w ↦ Contains-append_left others (key ∷ []) k (has.of_others k w)
    | inr w ↦ subst (λ (x : List ℕ). Contains (others ++ key ∷ []) x) w (Contains-push others key)
  ];
  all = λ k h. subst (λ (l : List (List ℕ)). Contains l k) (sym grown) (elim (Contains-push_cases others key k h) [
    | inl w ↦ Contains-append_left old (key ∷ []) k (has.all k w)
    | inr w ↦ subst (λ (x : List ℕ). Contains (old ++ key ∷ []) x) w (Contains-push old key)
  ]);
}

-- a key stands at its number, and others stay where they are
number_place : (old new : List (List ℕ)) (key : List ℕ) (number : ℕ) → Numbers old key number new → slice_get new number ≡ Some key
number_place old new key number (known at same) = subst (λ (l : List (List ℕ)). slice_get l number ≡ Some key) (sym same) at
number_place old new key number (first unseen place grown) = ap (slice_get new) place ∙ ap (λ (l : List (List ℕ)). slice_get l (length old)) grown ∙ slice_get-push_last old key

number_stays : (old new : List (List ℕ)) (key other : List ℕ) (number n : ℕ) → Numbers old key number new → slice_get old n ≡ Some other → slice_get new n ≡ Some other
number_stays old new key other number n (known at same) h = subst (λ (l : List (List ℕ)). slice_get l n ≡ Some other) (sym same) h
number_stays old new key other number n (first unseen place grown) h = subst (λ (l : List (List ℕ)). slice_get l n ≡ Some other) (sym grown) (slice_get-push_left old key n other h)

-- a numbered key more
pub numbered_more : (old new : List (List ℕ)) (keys after : List NumberedKey) (own : NumberedKey) → AreNumbered old keys → Numbers old own.key.now own.number new → after ≡ keys ++ own ∷ [] → AreNumbered new after
numbered_more old new keys after own are numbered grown = record {
  placed = λ i one at. elim (push_cases keys own i one (subst (λ (l : List NumberedKey). slice_get l i ≡ Some one) grown at)) [
    | inl w ↦ number_stays old new own.key.now one.key.now own.number one.number numbered (are.placed i one w)
    | inr w ↦ subst (λ (k : NumberedKey). slice_get new k.number ≡ Some k.key.now) w.1 (number_place old new own.key.now own.number numbered)
  ];
  same = subst (HasKeys new) (sym (ap (λ (l : List NumberedKey). keys_in (map entry_of l)) grown ∙ ap keys_in (map-append entry_of keys (own ∷ [])) ∙ map-append (λ (e : List ℕ × List Call). e.0) (map entry_of keys) (entry_of own ∷ [])))
      (has_more old new (keys_in (map entry_of keys)) own.key.now own.number are.same numbered);
}

-- what a look-up finds is an entry
found_entry : (parts : KeyParts) (key : List ℕ) (part : List Call) → lookup (bytes_eq key) parts ≡ Some part → Contains (keys_in parts) key
found_entry [] key part h = absurd (cc)
found_entry (e ∷ es) key part h = by (bytes_eq key e.0) refl (found_entry es key part) h
  where
    by : (b : Bool) → bytes_eq key e.0 ≡ b → (lookup (bytes_eq key) es ≡ Some part → Contains (keys_in es) key) → cond b (Some e.1) (lookup (bytes_eq key) es) ≡ Some part → Contains (keys_in (e ∷ es)) key
    by true same later found = subst (λ (k : List ℕ). Contains (keys_in (e ∷ es)) k) (sym ((bytes_decides key e.0).0 same)) (Contains-append_left (e.0 ∷ []) (keys_in es) e.0 (Contains-push [] e.0))
    by false other later found = Contains-append_right (e.0 ∷ []) (keys_in es) key (later found)

-- a key that has an entry is found
found_key : (parts : KeyParts) (key : List ℕ) → Contains (keys_in parts) key → is_none (lookup (bytes_eq key) parts) ≡ false
found_key [] key h = absurd (omega (arith, h.1))
found_key (e ∷ es) key h = by (bytes_eq key e.0) refl (found_key es key)
  where
    missed : bytes_eq key e.0 ≡ false → Contains (keys_in es) key
    missed other = elim (Contains-append_cases (e.0 ∷ []) (keys_in es) key h) [
      | inl w ↦ elim (Contains-push_cases [] e.0 key w) [
        | inl v ↦ absurd (omega (arith, v.1))
        | inr v ↦ let hit : bytes_eq key e.0 ≡ true = (bytes_decides key e.0).1 (sym v) in absurd (cc)
      ]
      | inr w ↦ w
    ]

    by : (b : Bool) → bytes_eq key e.0 ≡ b → (Contains (keys_in es) key → is_none (lookup (bytes_eq key) es) ≡ false) → is_none (cond (bytes_eq key e.0) (Some e.1) (lookup (bytes_eq key) es)) ≡ false
    by true same later = ap (λ (b : Bool). is_none (cond b (Some e.1) (lookup (bytes_eq key) es))) same
    by false other later = ap (λ (b : Bool). is_none (cond b (Some e.1) (lookup (bytes_eq key) es))) other ∙ later (missed other)

-- whether an order's key has a part
other_seen : (keys : List (List ℕ)) (parts : KeyParts) (one : KeyOrder) → HasKeys keys (keys_in parts) → Contains keys one.key → is_other parts one ≡ false
other_seen keys parts one has h = found_key parts one.key (has.of_others one.key h)

other_new : (keys : List (List ℕ)) (parts : KeyParts) (one : KeyOrder) → HasKeys keys (keys_in parts) → (Contains keys one.key → ⊥) → is_other parts one ≡ true
other_new keys parts one has none = by (lookup (bytes_eq one.key) parts) refl
  where
    by : (o : Option (List Call)) → lookup (bytes_eq one.key) parts ≡ o → is_none (lookup (bytes_eq one.key) parts) ≡ true
    by None is = ap is_none is
    by (Some part) is = absurd (none (has.all one.key (found_entry parts one.key part is)))

-- the orders of other keys, where one order more is of such a key or not
pub other_added : (keys : List (List ℕ)) (parts : KeyParts) (orders : List KeyOrder) (one : KeyOrder) → HasKeys keys (keys_in parts) → (Contains keys one.key → ⊥) → filter (is_other parts) (orders ++ one ∷ []) ≡ filter (is_other parts) orders ++ one ∷ []
other_added keys parts orders one has none =
    filter-append (is_other parts) orders (one ∷ [])
    ∙ ap (λ (b : Bool). filter (is_other parts) orders ++ cond b (one ∷ []) []) (other_new keys parts one has none)

pub other_passed : (keys : List (List ℕ)) (parts : KeyParts) (orders : List KeyOrder) (one : KeyOrder) → HasKeys keys (keys_in parts) → Contains keys one.key → filter (is_other parts) (orders ++ one ∷ []) ≡ filter (is_other parts) orders
other_passed keys parts orders one has met =
    filter-append (is_other parts) orders (one ∷ [])
    ∙ ap (λ (b : Bool). filter (is_other parts) orders ++ cond b (one ∷ []) []) (other_seen keys parts one has met)
    ∙ append-nil (filter (is_other parts) orders)

-- the parts of a further history
joined_more : (maps : List KeyParts) (own : KeyParts) → all_parts (maps ++ own ∷ []) ≡ all_parts maps ++ own
joined_more [] own = append-nil own
joined_more (m ∷ ms) own = ap (λ (l : KeyParts). m ++ l) (joined_more ms own) ∙ sym (append_assoc m (all_parts ms) own)

-- the parts up to those of a further history
pub parts_more : {X : Type 0} (parts_in : X → KeyParts) (maps : List X) (i : ℕ) (own : X) (old new : KeyParts) → i < length maps → own ≡ get_or maps i own → old ≡ all_parts (map parts_in (take i maps)) → new ≡ old ++ parts_in own → new ≡ all_parts (map parts_in (take (i + 1) maps))
parts_more parts_in maps i own old new below is so_far grown =
    grown ∙ ap (λ (l : KeyParts). l ++ parts_in own) so_far
    ∙ sym (ap all_parts (mapped_more parts_in maps i own below is) ∙ joined_more (map parts_in (take i maps)) (parts_in own))

-- the checked keys, with a further one that has a part
pub checked_more : (orders : List KeyOrder) (own : NumberedKey) (rest : List NumberedKey) (old new all : List CheckedKey) (order : List OpId) → order ≡ given_order orders own.key.now → old ++ map (recorded_key orders) (map entry_of (own ∷ rest)) ≡ all → new ≡ old ++ record { key = own.key.now; part = own.part; order = order } ∷ [] → new ++ map (recorded_key orders) (map entry_of rest) ≡ all
checked_more orders own rest old new all order given so_far grown =
    let after = map (recorded_key orders) (map entry_of rest) in
    ap (λ (l : List CheckedKey). l ++ after) (grown ∙ ap (λ (o : List OpId). old ++ record { key = own.key.now; part = own.part; order = o } ∷ []) given)
    ∙ append_assoc old (recorded_key orders (entry_of own) ∷ []) after
    ∙ so_far

-- the entries up to a further one
pub entries_more : (entries : KeyParts) (place : ℕ) (own : NumberedKey) (entry : List ℕ × List Call) (start : KeyParts) (old new : List NumberedKey) → slice_get entries place ≡ Some entry → entry_of own ≡ entry → map entry_of old ≡ start ++ take place entries → new ≡ old ++ own ∷ [] → map entry_of new ≡ start ++ take (place + 1) entries
entries_more entries place own entry start old new at same so_far grown =
    ap (map entry_of) grown ∙ map-append entry_of old (own ∷ [])
    ∙ ap₂ (λ (l : KeyParts) (e : List ℕ × List Call). l ++ e ∷ []) so_far same
    ∙ append_assoc start (take place entries) (entry ∷ [])
    ∙ ap (λ (l : KeyParts). start ++ l) (sym (front_at entries place entry at))
