-- The element of a picture, and that of a view of what it shows.
use Rattle.std.specs.Prelude.{ℕ, ◌*◌, List, [], ◌∷◌}
use Rattle.markup.specs.Markup.{NamedText, all_tenths_text}
use Rattle.markup.specs.declared.names.AttributeName.TheVariants as name
use Rattle.labels.specs.declared.style.TheConstants.{IMAGE}
use Rattle.labels.specs.Labels.{number_of, words_of}

-- the role and the size of a picture that is so wide and so high
abbrev pub image_attributes : ℕ → ℕ → List NamedText
image_attributes width height =
    words_of name.Role IMAGE.now ∷ number_of name.Width width ∷ number_of name.Height height
    ∷ words_of name.ViewBox (all_tenths_text (0 ∷ 0 ∷ width * 10 ∷ height * 10 ∷ [])) ∷ []

-- the attributes of a view that is so wide, from there down so high
abbrev pub view_attributes : ℕ → ℕ → ℕ → List NamedText
view_attributes width top height = number_of name.Width width ∷ number_of name.Height height
    ∷ words_of name.ViewBox (all_tenths_text (0 ∷ top * 10 ∷ width * 10 ∷ height * 10 ∷ [])) ∷ []
