-- The bytes of what is made of each item of a list.
use Rattle.std.proofs.Common.{ℕ, ◌≡◌, List, [], ◌∷◌, ◌++◌, flat_map, refl, ap}
use Rattle.markup.specs.Markup.{Markup, each, rendered}

-- they are those of each, one after another
pub rendered_each : {X : Type 0} (f : X → Markup) (xs : List X) → rendered (each f xs) ≡ flat_map (λ x. rendered (f x)) xs
unfolding rendered
rendered_each f [] = refl
rendered_each f (x ∷ xs) = ap (λ (s : List ℕ). rendered (f x) ++ s) (rendered_each f xs)
