-- Lists by place: what stands where, before and after a change.
use Rattle.std.proofs.Common.{◌≡◌, ◌≢◌, ◌<◌, ◌≤◌, ◌+◌, ◌⊎◌, ℕ, zero, suc, List, [], ◌∷◌, ◌++◌, Some}
use Rattle.std.proofs.Common.{length, take, set, map, get_or, drop, refl, sym, ap, subst, ◌∙◌, inl, inr, arith}
use Rattle.std.specs.List.{slice_get, Contains}
use Rattle.std.specs.Option.{option_map}
use Rattle.std.proofs.lemmas.Bool.{cases_eq}
use Rattle.std.proofs.lemmas.Option.{same_Some, slice_get-map, slice_get-get_or, slice_get_cases, slice_get_within, get_or_from_slice_get}
use Rattle.tag.proofs.Below.{below_or_next}
use Rattle.tag.proofs.Options.{none_some}

-- ---- what stands at a place

-- what a list contains stands at a place
pub place_of : {X : Type 0} (xs : List X) (x : X) → Contains xs x → (k : ℕ) × (slice_get xs k ≡ Some x)
place_of xs x h = (h.0, slice_get-get_or xs h.0 x h.1 ∙ ap Some h.2)

-- what stands at a place is contained
pub Contains-slice_get : {X : Type 0} (xs : List X) (k : ℕ) (x : X) → slice_get xs k ≡ Some x → Contains xs x
Contains-slice_get xs k x h = (k, slice_get_within xs k x h, get_or_from_slice_get xs k x x h)

-- something stands at each place below the length
pub get_at : {X : Type 0} (xs : List X) (k : ℕ) → k < length xs → (x : X) × (slice_get xs k ≡ Some x)
get_at xs k h = elim (slice_get_cases xs k).1 [ inl w ↦ (w.0, w.2) | inr w ↦ absurd (omega (arith, h, w.0)) ]

-- an element that was read stands there
pub item_at : {X : Type 0} (xs : List X) (k : ℕ) (x : X) → k < length xs → x ≡ get_or xs k x → slice_get xs k ≡ Some x
item_at xs k x below is = slice_get-get_or xs k x below ∙ ap Some (sym is)

-- ---- one element more at the end

-- the others stay where they are
pub slice_get-push_left : {X : Type 0} (xs : List X) (x : X) (k : ℕ) (y : X) → slice_get xs k ≡ Some y → slice_get (xs ++ x ∷ []) k ≡ Some y
slice_get-push_left [] x k y e = none_some e
slice_get-push_left (z ∷ xs) x zero y e = e
slice_get-push_left (z ∷ xs) x (suc k) y e = slice_get-push_left xs x k y e

-- the new element is the last
pub slice_get-push_last : {X : Type 0} (xs : List X) (x : X) → slice_get (xs ++ x ∷ []) (length xs) ≡ Some x
slice_get-push_last [] x = refl
slice_get-push_last (z ∷ xs) x = slice_get-push_last xs x

-- what stands there stood there before, or is the last
pub push_cases : {X : Type 0} (xs : List X) (x : X) (k : ℕ) (y : X) → slice_get (xs ++ x ∷ []) k ≡ Some y
    → (slice_get xs k ≡ Some y) ⊎ ((k ≡ length xs) × (x ≡ y))
push_cases [] x zero y e = inr (refl, same_Some x y e)
push_cases [] x (suc k) y e = none_some e
push_cases (z ∷ xs) x zero y e = inl e
push_cases (z ∷ xs) x (suc k) y e = elim (push_cases xs x k y e) [ inl h ↦ inl h | inr h ↦ inr (ap suc h.0, h.1) ]

-- an element at the end of a list that is another
pub same_push : {X : Type 0} (start reserved now : List X) (x : X) → reserved ≡ start → now ≡ reserved ++ x ∷ [] → now ≡ start ++ x ∷ []
same_push start reserved now x same more = more ∙ ap (λ l. l ++ x ∷ []) same

-- ---- more elements at the end

-- the others stay where they are
pub slice_get-append_left : {X : Type 0} (xs ys : List X) (k : ℕ) (y : X) → slice_get xs k ≡ Some y → slice_get (xs ++ ys) k ≡ Some y
slice_get-append_left [] ys k y e = none_some e
slice_get-append_left (z ∷ xs) ys zero y e = e
slice_get-append_left (z ∷ xs) ys (suc k) y e = slice_get-append_left xs ys k y e

-- what stands there stands in the first list, or in the second, so many places later
pub append_cases : {X : Type 0} (xs ys : List X) (k : ℕ) (y : X) → slice_get (xs ++ ys) k ≡ Some y
    → (slice_get xs k ≡ Some y) ⊎ ((j : ℕ) × (k ≡ length xs + j) × (slice_get ys j ≡ Some y))
append_cases [] ys k y e = inr (k, omega arith, e)
append_cases (z ∷ xs) ys zero y e = inl e
append_cases (z ∷ xs) ys (suc k) y e = elim (append_cases xs ys k y e) [ inl h ↦ inl h | inr h ↦ inr (h.0, omega (arith, h.1), h.2) ]

pub in_either : {X : Type 0} (xs ys : List X) (k : ℕ) (y : X) → slice_get (xs ++ ys) k ≡ Some y
    → (slice_get xs k ≡ Some y) ⊎ ((j : ℕ) × (slice_get ys j ≡ Some y))
in_either xs ys k y e = elim (append_cases xs ys k y e) [ inl h ↦ inl h | inr h ↦ inr (h.0, h.2) ]

pub in_first_or_late : {X : Type 0} (xs ys : List X) (k : ℕ) (y : X) → slice_get (xs ++ ys) k ≡ Some y
    → (slice_get xs k ≡ Some y) ⊎ (length xs ≤ k)
in_first_or_late xs ys k y e = elim (append_cases xs ys k y e) [ inl h ↦ inl h | inr h ↦ inr (omega (arith, h.1)) ]

-- ---- the first elements

-- what stands in a front stands in the list
pub slice_get-take : {X : Type 0} (xs : List X) (n k : ℕ) → k < n → slice_get (take n xs) k ≡ slice_get xs k
slice_get-take [] zero k h = refl
slice_get-take [] (suc n) k h = refl
slice_get-take (x ∷ xs) zero k h = absurd (omega arith)
slice_get-take (x ∷ xs) (suc n) zero h = refl
slice_get-take (x ∷ xs) (suc n) (suc k) h = slice_get-take xs n k (omega arith)

pub in_front : {X : Type 0} (xs : List X) (n k : ℕ) (x : X) → slice_get (take n xs) k ≡ Some x → (k < n) × (slice_get xs k ≡ Some x)
in_front [] zero k x e = none_some e
in_front [] (suc n) k x e = none_some e
in_front (y ∷ xs) zero k x e = none_some e
in_front (y ∷ xs) (suc n) zero x e = (omega arith, e)
in_front (y ∷ xs) (suc n) (suc k) x e = let h = in_front xs n k x e in (omega (arith, h.0), h.1)

-- one element more of the front
pub take_push : {X : Type 0} (xs : List X) (k : ℕ) (x : X) → slice_get xs k ≡ Some x → take (suc k) xs ≡ take k xs ++ x ∷ []
take_push [] k x e = none_some e
take_push (y ∷ ys) zero x e = ap (λ z. z ∷ []) (same_Some y x e)
take_push (y ∷ ys) (suc k) x e = ap (λ zs. y ∷ zs) (take_push ys k x e)

-- ---- one element written

-- after a write, the new element stands at its place, and elsewhere what was there
pub slice_get-set : {X : Type 0} (xs : List X) (i k : ℕ) (v : X) → i < length xs
    → ((k ≡ i) × (slice_get (set xs i v) k ≡ Some v)) ⊎ ((k ≢ i) × (slice_get (set xs i v) k ≡ slice_get xs k))
slice_get-set xs i k v h =
    elim (cases_eq k i) [
      | inl here ↦ inl (here, ap (slice_get (set xs i v)) here ∙ set_here xs i v h)
      | inr other ↦ inr (other, set_other xs i k v other)
    ]
  where
    set_here : {X : Type 0} (xs : List X) (i : ℕ) (v : X) → i < length xs → slice_get (set xs i v) i ≡ Some v
    set_here [] i v h = absurd (omega arith)
    set_here (x ∷ xs) zero v h = refl
    set_here (x ∷ xs) (suc i) v h = set_here xs i v (omega arith)

    set_other : {X : Type 0} (xs : List X) (i k : ℕ) (v : X) → k ≢ i → slice_get (set xs i v) k ≡ slice_get xs k
    set_other [] i k v h = refl
    set_other (x ∷ xs) zero zero v h = absurd (h refl)
    set_other (x ∷ xs) zero (suc k) v h = refl
    set_other (x ∷ xs) (suc i) zero v h = refl
    set_other (x ∷ xs) (suc i) (suc k) v h = set_other xs i k v (λ same. h (ap suc same))

-- what stands there is the new element, or stood there before
pub set_cases : {X : Type 0} (xs : List X) (i : ℕ) (v : X) (k : ℕ) (y : X) → slice_get (set xs i v) k ≡ Some y
    → ((k ≡ i) × (v ≡ y)) ⊎ ((k ≢ i) × (slice_get xs k ≡ Some y))
set_cases [] i v k y e = none_some e
set_cases (x ∷ xs) zero v zero y e = inl (refl, same_Some v y e)
set_cases (x ∷ xs) zero v (suc k) y e = inr ((λ same. absurd (omega arith)), e)
set_cases (x ∷ xs) (suc i) v zero y e = inr ((λ same. absurd (omega arith)), e)
set_cases (x ∷ xs) (suc i) v (suc k) y e =
    elim (set_cases xs i v k y e) [ inl h ↦ inl (ap suc h.0, h.1) | inr h ↦ inr ((λ (same : suc k ≡ suc i). h.0 (omega arith)), h.1) ]

-- an element that is written where it stands changes nothing
pub set_same : {X : Type 0} (xs : List X) (i : ℕ) (x : X) → slice_get xs i ≡ Some x → set xs i x ≡ xs
set_same [] i x e = refl
set_same (y ∷ xs) zero x e = ap (λ z. z ∷ xs) (sym (same_Some y x e))
set_same (y ∷ xs) (suc i) x e = ap (λ l. y ∷ l) (set_same xs i x e)

-- ---- what a function makes of each element

pub slice_get-map_back : {X Y : Type 0} (f : X → Y) (xs : List X) (k : ℕ) (y : Y) → slice_get (map f xs) k ≡ Some y
    → (x : X) × (slice_get xs k ≡ Some x) × (f x ≡ y)
slice_get-map_back f [] k y e = none_some e
slice_get-map_back f (x ∷ xs) zero y e = (x, refl, same_Some (f x) y e)
slice_get-map_back f (x ∷ xs) (suc k) y e = slice_get-map_back f xs k y e

pub slice_get-map_at : {X Y : Type 0} (f : X → Y) (xs : List X) (k : ℕ) (x : X) → slice_get xs k ≡ Some x
    → slice_get (map f xs) k ≡ Some (f x)
slice_get-map_at f xs k x e = slice_get-map f xs k ∙ ap (option_map f) e

-- ---- what holds of each element by its place

-- of one element more at the end
pub each_push : {X : Type 0} (P : ℕ → X → Type 0) (xs now : List X) (x : X) → ((k : ℕ) (y : X) → slice_get xs k ≡ Some y → P k y)
    → now ≡ xs ++ x ∷ [] → P (length xs) x → (k : ℕ) (y : X) → slice_get now k ≡ Some y → P k y
each_push P xs now x before is has k y e =
    elim (push_cases xs x k y (subst (λ l. slice_get l k ≡ Some y) is e)) [
      | inl old ↦ before k y old
      | inr last ↦ subst (λ n. P n y) (sym last.0) (subst (P (length xs)) last.1 has)
    ]

-- of one element more of the front
pub each_next : {X : Type 0} (P : ℕ → X → Type 0) (xs : List X) (count : ℕ) (x : X)
    → ((k : ℕ) (y : X) → k < count → slice_get xs k ≡ Some y → P k y) → slice_get xs count ≡ Some x → P count x
    → (k : ℕ) (y : X) → k < count + 1 → slice_get xs k ≡ Some y → P k y
each_next P xs count x before next has k y less at =
    elim (below_or_next k count less) [
      | inl early ↦ before k y early at
      | inr here ↦
          let same : x ≡ y = same_Some x y (sym next ∙ subst (λ n. slice_get xs n ≡ Some y) here at) in
          subst (λ n. P n y) (sym here) (subst (P count) same has)
    ]

-- ---- lists that are the same

pub same_head : {X : Type 0} (x y : X) (xs ys : List X) → x ∷ xs ≡ y ∷ ys → x ≡ y
same_head x y xs ys e = ap (λ l. get_or l 0 x) e

pub same_tail : {X : Type 0} (x y : X) (xs ys : List X) → x ∷ xs ≡ y ∷ ys → xs ≡ ys
same_tail x y xs ys e = ap (drop 1) e
