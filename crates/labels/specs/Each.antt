-- Shapes, one for each item of a list and its index, or for each number below a count.
use Rattle.std.specs.Prelude.{ℕ, zero, suc, ◌+◌, List, [], ◌∷◌}
use Rattle.markup.specs.Markup.{Markup, nothing, both}

-- what is made of each item of a list and its index, counted from a number on
abbrev pub each_from : {X : Type 0} → (ℕ → X → Markup) → ℕ → List X → Markup
each_from f k [] = nothing
each_from f k (x ∷ xs) = both (f k x) (each_from f (k + 1) xs)

-- what is made of each number below a count, one after another
abbrev pub each_below : (ℕ → Markup) → ℕ → Markup
each_below f zero = nothing
each_below f (suc n) = both (each_below f n) (f n)
