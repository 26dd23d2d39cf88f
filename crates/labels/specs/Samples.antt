-- Samples of shapes, for a legend.
use Rattle.std.specs.Prelude.{ℕ, List, [], ◌∷◌}
use Rattle.markup.specs.Markup.{Markup, text, element}
use Rattle.markup.specs.declared.names.AttributeName.TheVariants as name
use Rattle.markup.specs.declared.names.Element.TheVariants as tag
use Rattle.labels.specs.Labels.{words_of}

-- words that look as the shapes of that class
abbrev pub sample : List ℕ → List ℕ → Markup
sample class words = element tag.Span (words_of name.Class class ∷ []) (text words)
