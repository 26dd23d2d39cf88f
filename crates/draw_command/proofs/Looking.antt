-- Items that are looked for one by one, and those that are read.
use Rattle.std.proofs.Common.{ℕ, ◌≡◌, ◌<◌, ◌+◌, ◌||◌, Bool, true, false, List, All, Some, get_or, length, map, take, ap, subst, sym, ◌∙◌}
use Rattle.std.proofs.Math.ListN.{get_or-map}
use Rattle.std.proofs.lemmas.List.{length-map}
use Rattle.std.proofs.lemmas.List.Elements.{All-get_or}
use Rattle.std.specs.List.{list_any, slice_get}
use Rattle.std.proofs.lemmas.List.Folds.{list_any_at, list_any_more}
use Rattle.std.proofs.lemmas.Option.{get_or_from_slice_get, slice_get_within}

-- one that stands at a place is enough
pub one_at : {X : Type 0} (test : X → Bool) (xs : List X) (i : ℕ) (x : X) → slice_get xs i ≡ Some x → test x ≡ true → list_any test xs ≡ true
one_at test xs i x at is = list_any_at test xs i x (slice_get_within xs i x at) (ap test (get_or_from_slice_get xs i x x at) ∙ is)

-- none yet, nor at the place
pub none_more : {X : Type 0} (test : X → Bool) (xs : List X) (i : ℕ) (x : X) → slice_get xs i ≡ Some x → test x ≡ false → list_any test (take i xs) ≡ false
    → list_any test (take (i + 1) xs) ≡ false
none_more test xs i x at is so_far =
    list_any_more test xs i x (slice_get_within xs i x at) ∙ ap (λ (b : Bool). b || test (get_or xs i x)) so_far ∙ ap test (get_or_from_slice_get xs i x x at) ∙ is

-- what holds of each item holds of the one that was read
pub read_item : {X : Type 0} (P : X → Type 0) (xs : List X) (n : ℕ) (x : X) → All P xs → n < length xs → x ≡ get_or xs n x → P x
read_item P xs n x all within is = subst P (sym is) (All-get_or P xs n x within all)

-- what holds of what a function makes of each item holds of what it makes of the one that was read
pub read_mapped : {X Y : Type 0} (f : X → Y) (P : Y → Type 0) (xs : List X) (n : ℕ) (x : X) → All P (map f xs) → n < length xs → x ≡ get_or xs n x → P (f x)
read_mapped f P xs n x all within is =
    let same : get_or (map f xs) n (f x) ≡ f x = get_or-map f xs n x ∙ ap f (sym is) in
    subst P same (All-get_or P (map f xs) n (f x) (subst (λ (k : ℕ). n < k) (sym (length-map xs f)) within) all)
