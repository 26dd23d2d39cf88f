-- What answers say of texts.
use Rattle.std.specs.Prelude.{ℕ, List, [], ◌∷◌, ◌++◌, codes, cond, nat_eq}
use Rattle.std.specs.List.{ends_with}

-- whole lines as they are, and a mark where the last one has no end
abbrev pub with_mark : List ℕ → List ℕ
with_mark [] = []
with_mark (byte ∷ bytes) = cond (ends_with nat_eq (byte ∷ bytes) (10 ∷ [])) (byte ∷ bytes) ((byte ∷
    bytes) ++ codes "<end>\n")

-- that a text says a word
abbrev pub says_text : List ℕ → List ℕ → List ℕ
says_text name word = name ++ codes " that says " ++ word ++ codes "\n"

-- that a text doesn't say a word
abbrev pub lacks_text : List ℕ → List ℕ → List ℕ
lacks_text name word = name ++ codes " that doesn't say " ++ word ++ codes "\n"
