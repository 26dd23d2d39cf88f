-- Fronts of lists, and what functions make of lists.
use Rattle.std.proofs.Common.{ℕ, ◌≡◌, ◌<◌, ◌+◌, List, [], ◌∷◌, ◌++◌, Some, length}
use Rattle.std.proofs.Common.{map, take, get_or, sym, ap, ◌∙◌, add-one}
use Rattle.std.specs.List.{slice_get}
use Rattle.std.proofs.lemmas.List.{map-append}
use Rattle.std.proofs.Math.Seq.{take-suc}
use Rattle.tag.proofs.Lists.{take_push}

-- a front with one element more
pub front_more : {X : Type 0} (xs : List X) (i : ℕ) (x : X) → i < length xs → x ≡ get_or xs i x
    → take (i + 1) xs ≡ take i xs ++ x ∷ []
front_more {X} xs i x below is = ap (λ (n : ℕ). take n xs) (add-one i) ∙ take-suc xs i x below
    ∙ ap (λ (y : X). take i xs ++ y ∷ []) (sym is)

pub mapped_more : {X Y : Type 0} (f : X → Y) (xs : List X) (i : ℕ) (x : X) → i < length xs → x
    ≡ get_or xs i x → map f (take (i + 1) xs) ≡ map f (take i xs) ++ f x ∷ []
mapped_more f xs i x below is =
    ap (map f) (front_more xs i x below is) ∙ map-append f (take i xs) (x ∷ [])

-- the same, where the element is the one at that place
pub front_at : {X : Type 0} (xs : List X) (i : ℕ) (x : X) → slice_get xs i ≡ Some x
    → take (i + 1) xs ≡ take i xs ++ x ∷ []
front_at {X} xs i x at = ap (λ (n : ℕ). take n xs) (add-one i) ∙ take_push xs i x at

pub mapped_at : {X Y : Type 0} (f : X → Y) (xs : List X) (i : ℕ) (x : X) → slice_get xs i ≡ Some x
    → map f (take (i + 1) xs) ≡ map f (take i xs) ++ f x ∷ []
mapped_at f xs i x at =
    ap (map f) (front_at xs i x at) ∙ map-append f (take i xs) (x ∷ [])
