-- Elements around a text.
use Rattle.std.specs.Prelude.{ℕ, List, [], ◌∷◌}
use Rattle.markup.specs.Markup.{Markup, NamedText, text, element}
use Rattle.markup.specs.declared.names.AttributeName.TheVariants as name
use Rattle.markup.specs.declared.names.Element.{Element}

-- the only attribute of an element of a class
abbrev pub of_class : List ℕ → List NamedText
of_class class = record { name = name.Class; value = class } ∷ []

-- an element around a text
abbrev pub plain : Element → List ℕ → Markup
plain e words = element e [] (text words)

-- an element of that class around a text
abbrev pub worded : Element → List ℕ → List ℕ → Markup
worded e class words = element e (of_class class) (text words)
