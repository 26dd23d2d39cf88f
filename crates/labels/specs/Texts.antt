-- Words as texts.
use Rattle.std.specs.Prelude.{ℕ, Bool, true, not, ◌&&◌, nat_lt, if◌then◌else◌}
use Rattle.std.specs.Prelude.{List, [], ◌∷◌, length}
use Rattle.std.specs.List.{list_all, list_any}
use Rattle.std.specs.Str.{bytes_eq, is_utf8}
use Rattle.sentences.specs.Hidden.{shown_text}

-- words as a text: UTF-8, as names, keys and values are
abbrev pub text_of : List ℕ → List ℕ
text_of words = if is_utf8 words then words else []

-- what is shown of words, if they are a text: each hidden character stands as its number
abbrev pub shown_words : List ℕ → List ℕ
shown_words words = shown_text (text_of words)

-- no two of the texts are the same
abbrev pub all_differ : List (List ℕ) → Bool
all_differ [] = true
all_differ (text ∷ texts) = not (list_any (bytes_eq text) texts) && all_differ texts

-- each of the texts has a letter
abbrev pub none_is_empty : List (List ℕ) → Bool
none_is_empty texts = list_all (λ text. nat_lt 0 (length text)) texts
