-- Two lists, item for item; the items of a list that are left.
use Rattle.std.proofs.Common.{ℕ, zero, suc, ◌≡◌, ◌+◌, List, [], ◌∷◌, ◌++◌, Some, drop, length, map, take, refl, sym, ap, subst, ◌∙◌, arith}
use Rattle.std.specs.List.{AllZip, slice_get}
use Rattle.tag.proofs.Lists.{take_push}

zip_push : {A B : Type 0} (R : A → B → Type 0) (xs : List A) (ys : List B) (x : A) (y : B) → AllZip R xs ys → R x y
    → AllZip R (xs ++ x ∷ []) (ys ++ y ∷ [])
zip_push R [] [] x y h r = (r, tt)
zip_push R [] (b ∷ ys) x y h r = absurd h
zip_push R (a ∷ xs) [] x y h r = absurd h
zip_push R (a ∷ xs) (b ∷ ys) x y h r = (h.0, zip_push R xs ys x y h.1 r)

-- one item more of the first list
pub zip_next : {A B : Type 0} (R : A → B → Type 0) (xs : List A) (ys : List B) (n : ℕ) (x : A) (y : B) → slice_get xs n ≡ Some x
    → AllZip R (take n xs) ys → R x y
    → AllZip R (take (n + 1) xs) (ys ++ y ∷ [])
zip_next R xs ys n x y at h r =
    let next : suc n ≡ n + 1 = omega arith in
    let more = subst (λ (front : List _). AllZip R front (ys ++ y ∷ [])) (sym (take_push xs n x at)) (zip_push R (take n xs) ys x y h r) in
    subst (λ (k : ℕ). AllZip R (take k xs) (ys ++ y ∷ [])) next more

-- the first of the items that are left, and the others
first_left : {X : Type 0} (xs : List X) (n : ℕ) (x : X) → slice_get xs n ≡ Some x → drop n xs ≡ x ∷ drop (suc n) xs
first_left [] n x at = absurd (cc)
first_left (y ∷ ys) zero x at = let same : y ≡ x = cc in ap (λ (z : _). z ∷ ys) same
first_left (y ∷ ys) (suc n) x at = first_left ys n x at

pub left_of : {X : Type 0} (xs : List X) (n : ℕ) (x : X) → slice_get xs n ≡ Some x → drop n xs ≡ x ∷ drop (n + 1) xs
left_of xs n x at = let next : suc n ≡ n + 1 = omega arith in first_left xs n x at ∙ ap (λ (k : ℕ). x ∷ drop k xs) next

-- of two lists together the front that is as long as the first, and the rest
pub front_of : {X : Type 0} (xs ys : List X) → take (length xs) (xs ++ ys) ≡ xs
front_of [] ys = refl
front_of (x ∷ xs) ys = ap (λ (zs : List _). x ∷ zs) (front_of xs ys)

pub back_of : {X : Type 0} (xs ys : List X) → drop (length xs) (xs ++ ys) ≡ ys
back_of [] ys = refl
back_of (x ∷ xs) ys = back_of xs ys

pub map_drop : {X Y : Type 0} (f : X → Y) (n : ℕ) (xs : List X) → map f (drop n xs) ≡ drop n (map f xs)
map_drop f zero xs = refl
map_drop f (suc n) [] = refl
map_drop f (suc n) (x ∷ xs) = map_drop f n xs
