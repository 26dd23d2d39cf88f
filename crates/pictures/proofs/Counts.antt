-- Numbers along a list.
use Rattle.std.proofs.Common.{ℕ, ◌≡◌, ◌≤◌, List, length, get_or, map, arith}
use Rattle.std.specs.List.Sorted.{IsNonDecreasing, IsNonDecreasingBy}
use Rattle.std.proofs.lemmas.List.{get_or-map, length-map}

-- a function doesn't fall along a list whose images don't
pub mapped_not_falling : {X : Type 0} (f : X → ℕ) (xs : List X) → IsNonDecreasing (map f xs) → IsNonDecreasingBy f xs
mapped_not_falling {X} f xs up i j d le within =
    let size : length (map f xs) ≡ length xs = length-map xs f in
    let first : get_or (map f xs) i (f d) ≡ f (get_or xs i d) = get_or-map f xs i d (f d) (omega arith) in
    let second : get_or (map f xs) j (f d) ≡ f (get_or xs j d) = get_or-map f xs j d (f d) within in
    let low : get_or (map f xs) i (f d) ≤ get_or (map f xs) j (f d) = up i j (f d) le (omega arith) in
    omega (arith, first, second, low)
