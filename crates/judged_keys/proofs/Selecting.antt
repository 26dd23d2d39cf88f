-- Keys that are selected.
use Rattle.std.proofs.Common.{◌≡◌, ◌==◌, ◌||◌, length, Bool, true, false, cond, not, ◌⊎◌, inl, inr, List, [], ◌∷◌, filter, map, refl, sym, ap, subst, ◌∙◌, ℕ}
use Rattle.std.specs.Borrow.{Bor}
use Rattle.std.specs.List.{All, Contains, list_any}
use Rattle.std.specs.Str.{bytes_eq}
use Rattle.std.proofs.lemmas.List.Elements.{All-append, All-cons, All-contains, All-contains_itself, All-head, All-map, All-nil, All-same, All-tail, All-weaker, Contains-append_left}
use Rattle.recorder.specs.declared.part.Call.{Call}
use Rattle.parallel_keys.specs.CheckedKeys.{CheckedKey, KeyParts, checked_keys, recorded_key}
use Rattle.parallel_keys.specs.KeysToCheck.{what_of}
use Rattle.parallel_keys.specs.declared.collect_keys.KeyToCheck.{KeyToCheck}
use Rattle.cli.proofs.Entries.{contains_cases, contains_head, contains_nothing, contains_tail}
use Rattle.judged_keys.specs.Judgements.{AreJudged, Judgement}
use Rattle.judged_keys.specs.Selected.{is_selected, missing_names, selected_keys}
use Rattle.judged_keys.specs.declared.judged.Judged.{Judged}

-- what a function makes of the elements that pass is what passes of all that it makes
pub map-filter : {X Y : Type 0} (f : X → Y) (p : Y → Bool) (xs : List X) → map f (filter (λ x. p (f x)) xs) ≡ filter p (map f xs)
map-filter f p [] = refl
map-filter {X} {Y} f p (x ∷ xs) = by (p (f x)) (map-filter f p xs)
  where
    by : (b : Bool) → map f (filter (λ x. p (f x)) xs) ≡ filter p (map f xs) → map f (cond b (x ∷ filter (λ x. p (f x)) xs) (filter (λ x. p (f x)) xs)) ≡ cond b (f x ∷ filter p (map f xs)) (filter p (map f xs))
    by true later = ap (λ (ys : List Y). f x ∷ ys) later
    by false later = later

-- whether one passes of what a function makes of elements
pub any_map : {X Y : Type 0} (f : X → Y) (p : Y → Bool) (xs : List X) → list_any p (map f xs) ≡ list_any (λ x. p (f x)) xs
any_map f p [] = refl
any_map f p (x ∷ xs) = ap (λ (b : Bool). p (f x) || b) (any_map f p xs)

-- where there are names, those keys are selected that have one
pub takes_named : (names : List (Bor (List ℕ))) (key : List ℕ) → (length names == 0) ≡ false → list_any (λ name. bytes_eq name.now key) names ≡ is_selected (map (λ name. name.now) names) key
takes_named [] key some = absurd (cc)
takes_named (name ∷ names) key some = sym (any_map (λ (n : Bor (List ℕ)). n.now) (λ (n : List ℕ). bytes_eq n key) (name ∷ names))

-- those of the names that no key has
pub missing_is : (keys : List KeyToCheck) (names : List (Bor (List ℕ))) → map (λ name. name.now) (filter (λ name. not (list_any (λ one. bytes_eq name.now one.key.now) keys)) names) ≡ missing_names (map what_of keys) (map (λ name. name.now) names)
missing_is keys [] = refl
missing_is keys (name ∷ names) =
    by (list_any (λ one. bytes_eq name.now one.key.now) keys) (missing_is keys names)
    ∙ ap (λ (b : Bool). cond (not b) (name.now ∷ missing_names (map what_of keys) (map (λ n. n.now) names)) (missing_names (map what_of keys) (map (λ n. n.now) names))) (sym (any_map what_of (λ (one : CheckedKey). bytes_eq name.now one.key) keys))
  where
    by : (b : Bool) → map (λ n. n.now) (filter (λ n. not (list_any (λ one. bytes_eq n.now one.key.now) keys)) names) ≡ missing_names (map what_of keys) (map (λ n. n.now) names)
        → map (λ n. n.now) (cond (not b) (name ∷ filter (λ n. not (list_any (λ one. bytes_eq n.now one.key.now) keys)) names) (filter (λ n. not (list_any (λ one. bytes_eq n.now one.key.now) keys)) names))
        ≡ cond (not b) (name.now ∷ missing_names (map what_of keys) (map (λ n. n.now) names)) (missing_names (map what_of keys) (map (λ n. n.now) names))
    by true later = later
    by false later = ap (λ (l : List (List ℕ)). name.now ∷ l) later

-- what holds of all that a function makes
all_from_map : {X Y : Type 0} (P : Y → Type 0) (f : X → Y) (xs : List X) → All P (map f xs) → All (λ x. P (f x)) xs
all_from_map P f [] all = All-nil (λ x. P (f x))
all_from_map P f (x ∷ xs) all = All-cons (λ y. P (f y)) x xs (All-head P (f x) (map f xs) all) (all_from_map P f xs (All-tail P (f x) (map f xs) all))

module _ {X : Type 0} (p : X → Bool) where
  -- of each element that passes it holds that it is there, and passes
  filtered : (xs : List X) → All (λ x. Contains xs x × (p x ≡ true)) (filter p xs)
  filtered [] = All-nil (λ x. Contains [] x × (p x ≡ true))
  filtered (y ∷ xs) =
      by (p y) refl (All-weaker (λ x. Contains xs x × (p x ≡ true)) (λ x. Contains (y ∷ xs) x × (p x ≡ true)) (λ x h. (contains_tail y xs x h.0, h.1)) (filter p xs) (filtered xs))
    where
      by : (b : Bool) → p y ≡ b → All (λ x. Contains (y ∷ xs) x × (p x ≡ true)) (filter p xs) → All (λ x. Contains (y ∷ xs) x × (p x ≡ true)) (cond b (y ∷ filter p xs) (filter p xs))
      by true is later = All-cons (λ x. Contains (y ∷ xs) x × (p x ≡ true)) y (filter p xs) (contains_head y xs, is) later
      by false is later = later

  -- what holds of all that pass holds of each element that does
  each_filtered : (P : X → Type 0) (xs : List X) → All P (filter p xs) → (x : X) → Contains xs x → p x ≡ true → P x
  each_filtered P [] all x h passes = absurd (contains_nothing x h)
  each_filtered P (y ∷ xs) all x h passes = by (p y) refl all (contains_cases y xs x h) (λ later w. each_filtered P xs later x w passes)
    where
      by : (b : Bool) → p y ≡ b → All P (cond b (y ∷ filter p xs) (filter p xs)) → (y ≡ x) ⊎ Contains xs x → (All P (filter p xs) → Contains xs x → P x) → P x
      by true is all (inl same) later = subst P same (All-head P y (filter p xs) all)
      by true is all (inr w) later = later (All-tail P y (filter p xs) all) w
      by false is all (inl same) later = let fails : p x ≡ false = sym (ap p same) ∙ is in absurd (cc)
      by false is all (inr w) later = later all w

-- what is checked of the selected keys
pub selected_what : (names : List (List ℕ)) (keys : List KeyToCheck) → map what_of (filter (λ one. is_selected names one.key.now) keys) ≡ selected_keys names (map what_of keys)
selected_what names keys = map-filter what_of (λ (one : CheckedKey). is_selected names one.key) keys

-- the key is a selected one of these
pub record IsEntry (names : List (List ℕ)) (parts : KeyParts) (one : CheckedKey) : Type 0 where
  pub there : Contains parts (one.key, one.part)
  pub selected : is_selected names one.key ≡ true

-- of judged keys that have parts
module _ (judged : Judged) (names : List (List ℕ)) (parts : KeyParts) (js : List Judgement) (are : AreJudged judged (selected_keys names (checked_keys parts [])) js) where
  -- each is a selected one
  pub are_entries : All (λ j. IsEntry names parts j.one) js
  are_entries =
      let all = checked_keys parts [] in
      let Is = IsEntry names parts in
      let There = λ (one : CheckedKey). Contains parts (one.key, one.part) in
      let there = All-append There (map (recorded_key []) parts) [] (All-map There (recorded_key []) parts (All-contains_itself parts)) (All-nil There) in
      let selects = λ (one : CheckedKey). is_selected names one.key in
      all_from_map Is (λ (j : Judgement). j.one) js
      (All-same Is (map (λ (j : Judgement). j.one) js) (selected_keys names all) are.each_key
      (All-weaker (λ (one : CheckedKey). Contains all one × (selects one ≡ true)) Is (λ one h. record { there = All-contains There all one there h.0; selected = h.1 }) (selected_keys names all) (filtered selects all)))

  -- what holds of all holds of each entry that is selected
  pub each_entry : (P : CheckedKey → Type 0) → All (λ j. P j.one) js → (key : List ℕ) (part : List Call) → Contains parts (key, part) → is_selected names key ≡ true → P (recorded_key [] (key, part))
  each_entry P holds key part h passes =
      let made = map (recorded_key []) parts in
      let recorded = All-contains (λ (e : List ℕ × List Call). Contains made (recorded_key [] e)) parts (key, part) (all_from_map (Contains made) (recorded_key []) parts (All-contains_itself made)) h in
      each_filtered (λ (one : CheckedKey). is_selected names one.key) P (checked_keys parts [])
      (All-same P (selected_keys names (checked_keys parts [])) (map (λ (j : Judgement). j.one) js) (sym are.each_key) (All-map P (λ (j : Judgement). j.one) js holds))
      (recorded_key [] (key, part)) (Contains-append_left made [] (recorded_key [] (key, part)) recorded) passes
