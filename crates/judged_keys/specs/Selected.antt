-- Which keys are judged, and which names no key has.
use Rattle.std.specs.Prelude.{ℕ, Bool, true, false, List, [], ◌∷◌, bytes_eq, filter, map, not}
use Rattle.std.specs.List.{list_any}
use Rattle.parallel_keys.specs.CheckedKeys.{CheckedKey}
use Rattle.judged_keys.specs.declared.judged.Judged.{Judged}
use Rattle.judged_keys.specs.declared.judged.Judged.TheVariants as judged
use Rattle.judged_keys.specs.declared.names.Names.{Names}
use Rattle.judged_keys.specs.declared.names.Names.TheVariants as names
use Rattle.judged_keys.specs.declared.selection.Selection.{Selection}

-- what keys are judged by, where no values are asked for: by orders, if there are some
abbrev pub judged_without_values : Bool → Judged
judged_without_values true = judged.Orders
judged_without_values false = judged.Tags

-- the names that are given
abbrev pub names_in : Names → List (List ℕ)
names_in names.Nothing = []
names_in (names.One name) = name.now ∷ []
names_in (names.Several some) = map (λ text. text.now) some.now

-- the same of a selection
abbrev pub names_of : Selection → List (List ℕ)
names_of selection = names_in selection.keys

-- the key is judged: each key is if no name is given, else each that has one of the names
abbrev pub is_selected : List (List ℕ) → List ℕ → Bool
is_selected [] key = true
is_selected (name ∷ names) key = list_any (λ n. bytes_eq n key) (name ∷ names)

-- the keys that are judged, in their order
abbrev pub selected_keys : List (List ℕ) → List CheckedKey → List CheckedKey
selected_keys names keys = filter (λ one. is_selected names one.key) keys

-- no key has the name
abbrev pub is_missing : List CheckedKey → List ℕ → Bool
is_missing keys name = not (list_any (λ one. bytes_eq name one.key) keys)

-- those of the names that no key has, in their order
abbrev pub missing_names : List CheckedKey → List (List ℕ) → List (List ℕ)
missing_names keys names = filter (is_missing keys) names
