-- Where the text of a key lies.
use Rattle.std.specs.Prelude.{ℕ, List, ◌≡◌, true, ◌<◌, length, ⊤}
use Rattle.std.specs.Arc.{arc_str_bytes}
use Rattle.tag.specs.declared.names.Name.{Name}
use Rattle.tag.specs.declared.names.Name.TheVariants.{Short, Long}
use Rattle.tag.specs.declared.names.Key.TheInside.{Inside}
use Rattle.tag.specs.Names.{is_key}
use Rattle.tag.specs.ShortTexts.{short_limit}

-- the text: in the value itself, or in a block that copies share
abbrev pub text_of : Name → List ℕ
text_of (Short text) = text
text_of (Long text) = arc_str_bytes text

-- no short text lies in a block
abbrev pub IsPlaced : Name → Type 0
IsPlaced (Short text) = ⊤
IsPlaced (Long text) = short_limit < length (arc_str_bytes text)

-- the text is a key's, and lies where a text of its length does
pub record IsKeyText (k : Inside) : Type 0 where
  pub lawful : is_key (text_of k.name) ≡ true
  pub placed : IsPlaced k.name
