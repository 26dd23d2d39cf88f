-- Names are words: no blank, slash or angle bracket stands in one.
use Rattle.std.proofs.Common.{ℕ, ◌≡◌, Bool, true, false, not, ◌&&◌, ◌||◌, ◌==◌, List, [], ◌∷◌, refl}
use Rattle.std.specs.List.{list_all}
use Rattle.markup.specs.declared.names.Element.{Element}
use Rattle.markup.specs.declared.names.Element.TheVariants as element
use Rattle.markup.specs.declared.names.AttributeName.{AttributeName}
use Rattle.markup.specs.declared.names.AttributeName.TheVariants as name
use Rattle.markup.specs.Names.{attribute_name, element_name}

abbrev pub is_word_byte : ℕ → Bool
is_word_byte b = not ((b == 32) || (b == 47) || (b == 60) || (b == 62))

abbrev pub is_word : List ℕ → Bool
is_word [] = false
is_word (b ∷ rest) = is_word_byte b && list_all is_word_byte rest

pub element_is_word : (e : Element) → is_word (element_name e) ≡ true
element_is_word element.A = refl
element_is_word _ = refl

pub attribute_is_word : (a : AttributeName) → is_word (attribute_name a) ≡ true
attribute_is_word name.AriaHidden = refl
attribute_is_word _ = refl
