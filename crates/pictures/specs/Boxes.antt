-- The boxes in which pictures and tables scroll, and what they are called.
use Rattle.std.specs.Prelude.{ℕ, List, [], ◌∷◌, ◌++◌}
use Rattle.markup.specs.Markup.{Markup, NamedText, text, element, both}
use Rattle.markup.specs.declared.names.AttributeName.TheVariants as name
use Rattle.markup.specs.declared.names.Element.{Element}
use Rattle.labels.specs.Labels.{number_of, words_of}
use Rattle.labels.specs.Texts.{text_of}
use Rattle.pictures.specs.declared.keys.CallKeys.{CallKeys}
use Rattle.pictures.specs.declared.style.TheConstants.{REGION, TITLE}
use Rattle.pictures.specs.Keys.{title_words}

-- an element that says on which keys the calls are
abbrev pub named_calls : Element → CallKeys → Markup
named_calls e keys = element e [] (both (text TITLE.now) (text (title_words keys)))

-- the attributes of a box of that class and of that name, which can have the focus
abbrev pub named_attributes : List ℕ → List ℕ → List NamedText
named_attributes class words = words_of name.Class class ∷ words_of name.Role REGION.now
    ∷ words_of name.AriaLabel words ∷ number_of name.Tabindex 0 ∷ []

-- those of one whose name has these words and then the keys of its calls
abbrev pub box_attributes : List ℕ → List ℕ → CallKeys → List NamedText
box_attributes class words keys = named_attributes class (text_of (words ++ title_words keys))
