-- The calls and the messages of a diagram are a list of sentences to who doesn't see it: each
-- stands in an item, whose title says it.
use Rattle.std.specs.Prelude.{ℕ, ◌*◌, List, [], ◌∷◌}
use Rattle.markup.specs.Markup.{NamedText, all_tenths_text}
use Rattle.markup.specs.declared.names.AttributeName.TheVariants as name
use Rattle.labels.specs.Labels.{number_of, words_of}
use Rattle.diagrams.specs.declared.style.TheConstants.{ITEM, LIST, MESSAGES, REGION, TITLE, TRUE}

-- the attributes of an item of that class, which can have the focus
abbrev pub item_attributes : List ℕ → List NamedText
item_attributes class = words_of name.Class class ∷ words_of name.Role ITEM.now
    ∷ number_of name.Tabindex 0 ∷ []

-- the attributes of a group of that class of what says nothing to who doesn't see it
abbrev pub hidden_attributes : List ℕ → List NamedText
hidden_attributes class = words_of name.Class class ∷ words_of name.AriaHidden TRUE.now ∷ []

-- the attributes of the list, which is so wide and so high
abbrev pub list_attributes : ℕ → ℕ → List NamedText
list_attributes width height =
    words_of name.Role LIST.now ∷ number_of name.Width width ∷ number_of name.Height height
    ∷ words_of name.ViewBox (all_tenths_text (0 ∷ 0 ∷ width * 10 ∷ height * 10 ∷ [])) ∷ []

-- the attributes of the box in which it scrolls, which has a name and can have the focus
abbrev pub box_attributes : List NamedText
box_attributes = words_of name.Id MESSAGES.now ∷ words_of name.Class MESSAGES.now
    ∷ words_of name.Role REGION.now ∷ words_of name.AriaLabel TITLE.now
    ∷ number_of name.Tabindex 0 ∷ []
