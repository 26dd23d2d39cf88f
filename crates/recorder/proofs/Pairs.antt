-- Lists whose elements a test compares in pairs.
use Rattle.std.proofs.Common.{ℕ, zero, suc, ◌≡◌, List, [], ◌∷◌, Some, Bool, true, false, length, refl, arith}
use Rattle.std.specs.Cmp.Lexicographic.{pointwise}
use Rattle.std.specs.List.{slice_get}
use Rattle.std.proofs.lemmas.Option.{none-some, same_Some}
use Rattle.std.proofs.Math.Bool.{and-false}

pub pair-differs : {X : Type 0} (E : X → X → Bool) (xs ys : List X) (k : ℕ) (x y : X) → slice_get xs k ≡ Some x → slice_get ys k ≡ Some y → E x y ≡ false → pointwise E xs ys ≡ false
pair-differs E [] ys k x y at_x at_y differ = absurd (none-some x at_x)
pair-differs E (u ∷ xs) [] k x y at_x at_y differ = absurd (none-some y at_y)
pair-differs E (u ∷ xs) (v ∷ ys) zero x y at_x at_y differ = rw (same_Some u x at_x, same_Some v y at_y, differ) refl
pair-differs E (u ∷ xs) (v ∷ ys) (suc k) x y at_x at_y differ = rw (pair-differs E xs ys k x y at_x at_y differ) (and-false (E u v))

pub pairs-same : {X : Type 0} (E : X → X → Bool) (xs ys : List X) → length xs ≡ length ys → ((k : ℕ) (x y : X) → slice_get xs k ≡ Some x → slice_get ys k ≡ Some y → E x y ≡ true) → pointwise E xs ys ≡ true
pairs-same E [] [] long each = refl
pairs-same E [] (v ∷ ys) long each = absurd (omega (arith, long))
pairs-same E (u ∷ xs) [] long each = absurd (omega (arith, long))
pairs-same E (u ∷ xs) (v ∷ ys) long each = rw (each 0 u v refl refl) (pairs-same E xs ys (omega (arith, long)) (λ k x y at_x at_y. each (suc k) x y at_x at_y))
