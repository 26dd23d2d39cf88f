-- Entries of a map whose keys are texts.
use Rattle.std.proofs.Common.{ℕ, ◌≡◌, ◌⊎◌, inl, inr, Bool, true, false, cond, List, [], ◌∷◌, Option, Some, is_some, refl, sym, ap, subst, arith}
use Rattle.std.specs.List.{Contains}
use Rattle.std.specs.Str.{bytes_eq}
use Rattle.std.specs.Map.{lookup}
use Rattle.std.specs.Cmp.Lexicographic.{bytes_decides}
use Rattle.std.proofs.lemmas.List.Elements.{Contains-append_left, Contains-append_right, Contains-append_cases, Contains-push, Contains-push_cases}

-- an empty list contains nothing
pub contains_nothing : {X : Type 0} (x : X) → Contains [] x → ⊥
contains_nothing x h = omega (arith, h.1)

pub contains_head : {X : Type 0} (x : X) (xs : List X) → Contains (x ∷ xs) x
contains_head x xs = Contains-append_left (x ∷ []) xs x (Contains-push [] x)

pub contains_tail : {X : Type 0} (y : X) (xs : List X) (x : X) → Contains xs x → Contains (y ∷ xs) x
contains_tail y xs x h = Contains-append_right (y ∷ []) xs x h

pub contains_cases : {X : Type 0} (y : X) (xs : List X) (x : X) → Contains (y ∷ xs) x → (y ≡ x) ⊎ Contains xs x
contains_cases y xs x h = elim (Contains-append_cases (y ∷ []) xs x h) [
  | inl w ↦ elim (Contains-push_cases [] y x w) [ inl v ↦ absurd (contains_nothing x v) | inr v ↦ inl v ]
  | inr w ↦ inr w
]

-- what a look-up finds is an entry
found_either : {X : Type 0} (e : List ℕ × X) (es : List (List ℕ × X)) (key : List ℕ) (x : X) (b : Bool) → bytes_eq key e.0 ≡ b → (lookup (bytes_eq key) es ≡ Some x → Contains es (key, x)) → cond b (Some e.1) (lookup (bytes_eq key) es) ≡ Some x → Contains (e ∷ es) (key, x)
found_either {X} e es key x true same later h =
    let k : key ≡ e.0 = (bytes_decides key e.0).0 same in
    let v : e.1 ≡ x = cc in
    let is : e ≡ (key, x) = λ i. (sym k i, v i) in
    subst (λ (y : List ℕ × X). Contains (e ∷ es) y) is (contains_head e es)
found_either e es key x false other later h = contains_tail e es (key, x) (later h)

pub found_entry : {X : Type 0} (es : List (List ℕ × X)) (key : List ℕ) (x : X) → lookup (bytes_eq key) es ≡ Some x → Contains es (key, x)
found_entry [] key x h = absurd (cc)
found_entry (e ∷ es) key x h = found_either e es key x (bytes_eq key e.0) refl (found_entry es key x) h

-- a key that has an entry is found
pub found_key : {X : Type 0} (es : List (List ℕ × X)) (key : List ℕ) (x : X) → Contains es (key, x) → is_some (lookup (bytes_eq key) es) ≡ true
found_key [] key x h = absurd (contains_nothing (key, x) h)
found_key {X} (e ∷ es) key x h = elim (contains_cases e es (key, x) h) [
  | inl w ↦ let same : bytes_eq key e.0 ≡ true = (bytes_decides key e.0).1 (sym (ap (λ (p : List ℕ × X). p.0) w)) in ap (λ (b : Bool). is_some (cond b (Some e.1) (lookup (bytes_eq key) es))) same
  | inr w ↦ either (bytes_eq key e.0) e.1 (lookup (bytes_eq key) es) (found_key es key x w)
]
  where
    either : {X : Type 0} (b : Bool) (y : X) (o : Option X) → is_some o ≡ true → is_some (cond b (Some y) o) ≡ true
    either true y o h = refl
    either false y o h = h
