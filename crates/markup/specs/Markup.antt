-- What a page holds: elements, each closed around what it holds, and texts.
use Rattle.std.specs.Prelude.{ℕ, ◌/◌, ◌%◌, List, [], ◌∷◌, ◌++◌, codes, decimal, flat_map}
use Rattle.markup.specs.declared.attributes.Attribute.{Attribute}
use Rattle.markup.specs.declared.attributes.Attribute.TheVariants as attribute
use Rattle.markup.specs.declared.names.AttributeName.{AttributeName}
use Rattle.markup.specs.declared.names.Element.{Element}
use Rattle.markup.specs.Escapes.{escaped}
use Rattle.markup.specs.Names.{attribute_name, element_name}

-- a number of tenths, as a decimal fraction
abbrev pub tenths_text : ℕ → List ℕ
tenths_text n = decimal (n / 10) ++ codes "." ++ decimal (n % 10)

-- numbers of tenths, a blank before each
abbrev pub all_tenths_text : List ℕ → List ℕ
all_tenths_text ns = flat_map (λ n. codes " " ++ tenths_text n) ns

-- an attribute: its name, and its value as a text
pub record NamedText : Type 0 where
  pub name : AttributeName
  pub value : List ℕ

-- the attribute that a caller gives
abbrev pub attribute_of : Attribute → NamedText
attribute_of (attribute.Words name words) = record { name = name; value = words.now }
attribute_of (attribute.Number name n) = record { name = name; value = decimal n }
attribute_of (attribute.Tenths name n) = record { name = name; value = tenths_text n }
attribute_of (attribute.AllTenths name ns) =
    record { name = name; value = all_tenths_text ns.now }
attribute_of (attribute.Numbered name words n) =
    record { name = name; value = words.now ++ decimal n }

-- what a page holds: nothing; a text; the end of a line of the file; an element that holds nothing;
-- an element around what it holds; or first one and then another
pub data Markup : Type 0 where
  nothing : Markup
  text : List ℕ → Markup
  line_end : Markup
  empty : Element → List NamedText → Markup
  element : Element → List NamedText → Markup → Markup
  both : Markup → Markup → Markup

-- what is made of each item, one after another
abbrev pub each : {X : Type 0} → (X → Markup) → List X → Markup
each f [] = nothing
each f (x ∷ xs) = both (f x) (each f xs)

-- an attribute in a tag, after a blank
unfoldable pub attribute_text : NamedText → List ℕ
attribute_text a =
    codes " " ++ attribute_name a.name ++ codes "=\"" ++ escaped a.value ++ codes "\""

-- the name and the attributes in a tag
unfoldable pub element_tag : Element → List NamedText → List ℕ
element_tag e attributes = element_name e ++ flat_map attribute_text attributes

-- the tag that opens an element
unfoldable pub opening_tag : Element → List NamedText → List ℕ
opening_tag e attributes = codes "<" ++ element_tag e attributes ++ codes ">"

-- the tag that closes an element
unfoldable pub closing_tag : Element → List ℕ
closing_tag e = codes "</" ++ element_name e ++ codes ">"

-- the tag of an element that holds nothing
unfoldable pub lone_tag : Element → List NamedText → List ℕ
lone_tag e attributes = codes "<" ++ element_tag e attributes ++ codes " />"

-- the bytes of what a page holds
unfoldable pub rendered : Markup → List ℕ
rendered nothing = []
rendered (text words) = escaped words
rendered line_end = codes "\n"
rendered (empty e attributes) = lone_tag e attributes
rendered (element e attributes inside) =
    opening_tag e attributes ++ rendered inside ++ closing_tag e
rendered (both first second) = rendered first ++ rendered second

-- the bytes of a page
unfoldable pub page_text : Markup → List ℕ
page_text page = codes "<!DOCTYPE html>\n" ++ rendered page
