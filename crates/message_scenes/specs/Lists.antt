-- Changing the first item of a list that passes a test.
use Rattle.std.specs.Prelude.{Bool, List, [], ◌∷◌, if◌then◌else◌}

module _ {A : Type 0} (test : A → Bool) where
  -- the list, with its first item that passes the test changed
  abbrev pub change_first : (A → A) → List A → List A
  change_first f [] = []
  change_first f (x ∷ xs) = if test x then f x ∷ xs else x ∷ change_first f xs
