-- Lists that have just what has a property, made element by element.
use Rattle.std.proofs.Common.{ℕ, ◌≡◌, ◌+◌, ◌⊎◌, ◌↔◌, inl, inr, List, [], ◌∷◌, ◌++◌, Some, take, sym, subst, add-one, refl}
use Rattle.std.specs.List.{slice_get, Contains}
use Rattle.std.proofs.lemmas.List.Elements.{Contains-append_left, Contains-append_right}
use Rattle.tag.proofs.Lists.{place_of, push_cases, take_push, Contains-slice_get}

-- the list has just what has the property
abbrev pub HasJust : {X : Type 0} → (X → Type 0) → List X → Type 0
HasJust {X} P list = (x : X) → Contains list x ↔ P x

pub in_push : {X : Type 0} (xs : List X) (y x : X) → Contains (xs ++ y ∷ []) x → Contains xs x ⊎ (y ≡ x)
in_push xs y x there =
    let at = place_of (xs ++ y ∷ []) x there in
    elim (push_cases xs y at.0 x at.1) [
      | inl old ↦ inl (Contains-slice_get xs at.0 x old)
      | inr new ↦ inr new.1
    ]

pub last_pushed : {X : Type 0} (xs : List X) (y : X) → Contains (xs ++ y ∷ []) y
last_pushed xs y = Contains-append_right xs (y ∷ []) y (Contains-slice_get (y ∷ []) 0 y refl)

-- one element more
pub just_more : {X : Type 0} (P Q : X → Type 0) (list now : List X) (y : X) → now ≡ list ++ y ∷ [] → ((x : X) → P x → Q x) → Q y
    → ((x : X) → Q x → P x ⊎ (y ≡ x)) → HasJust P list → HasJust Q now
just_more {X} P Q list now y more wider new back before = subst (HasJust Q) (sym more)
    (λ x. (
      λ there. elim (in_push list y x there) [
        | inl old ↦ wider x ((before x).0 old)
        | inr last ↦ subst Q last new
      ],
      λ has. elim (back x has) [
        | inl old ↦ Contains-append_left list (y ∷ []) x ((before x).1 old)
        | inr last ↦ subst (Contains (list ++ y ∷ [])) last (last_pushed list y)
      ],
    ))

-- the same elements
pub just_same : {X : Type 0} (P Q : X → Type 0) (list : List X) → ((x : X) → P x → Q x) → ((x : X) → Q x → P x) → HasJust P list
    → HasJust Q list
just_same P Q list to from before = λ x. (λ there. to x ((before x).0 there), λ has. (before x).1 (from x has))

-- the front of a list with one element more
pub in_longer : {X : Type 0} (xs : List X) (k : ℕ) (y x : X) → slice_get xs k ≡ Some y → Contains (take k xs) x
    → Contains (take (k + 1) xs) x
in_longer {X} xs k y x at there =
    let front : take (k + 1) xs ≡ take k xs ++ y ∷ [] = rw add-one (take_push xs k y at) in
    subst (λ (l : List X). Contains l x) (sym front) (Contains-append_left (take k xs) (y ∷ []) x there)

pub last_in_longer : {X : Type 0} (xs : List X) (k : ℕ) (y : X) → slice_get xs k ≡ Some y → Contains (take (k + 1) xs) y
last_in_longer {X} xs k y at =
    let front : take (k + 1) xs ≡ take k xs ++ y ∷ [] = rw add-one (take_push xs k y at) in
    subst (λ (l : List X). Contains l y) (sym front) (last_pushed (take k xs) y)

pub in_shorter : {X : Type 0} (xs : List X) (k : ℕ) (y x : X) → slice_get xs k ≡ Some y → Contains (take (k + 1) xs) x
    → Contains (take k xs) x ⊎ (y ≡ x)
in_shorter {X} xs k y x at there =
    let front : take (k + 1) xs ≡ take k xs ++ y ∷ [] = rw add-one (take_push xs k y at) in
    in_push (take k xs) y x (subst (λ (l : List X). Contains l x) front there)
