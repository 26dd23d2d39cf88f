-- The tags of a page, as they are read off its bytes, and how they nest.
use Rattle.std.specs.Prelude.{ℕ, Bool, false, ◌==◌, List, [], ◌∷◌, ◌++◌, Option, Some, None}
use Rattle.std.specs.Prelude.{codes, fold, if◌then◌else◌}
use Rattle.std.specs.Str.{bytes_eq}
use Rattle.markup.specs.Markup.{Markup, nothing, text, line_end, empty, element, both, element_tag}
use Rattle.markup.specs.Names.{element_name}

-- what has been read of a page: whole tags; or these and the beginning of one more
pub data Reading : Type 0 where
  between : List (List ℕ) → Reading
  within : List (List ℕ) → List ℕ → Reading

-- a less-than sign begins a tag, and the next greater-than sign ends it
abbrev pub after_byte : Reading → ℕ → Reading
after_byte (between tags) b = if b == 60 then within tags [] else between tags
after_byte (within tags tag) b =
    if b == 62 then between (tags ++ tag ∷ []) else within tags (tag ++ b ∷ [])

-- what is read of a page
abbrev pub reading_of : List ℕ → Reading
reading_of page = fold after_byte (between []) page

-- the tags of what a page holds, without their angle brackets
abbrev pub page_tags : Markup → List (List ℕ)
page_tags nothing = []
page_tags (text words) = []
page_tags line_end = []
page_tags (empty e attributes) = (element_tag e attributes ++ codes " /") ∷ []
page_tags (element e attributes inside) =
    element_tag e attributes ∷ page_tags inside ++ (codes "/" ++ element_name e) ∷ []
page_tags (both first second) = page_tags first ++ page_tags second

-- the name at the beginning of a tag: what stands before the first blank
abbrev pub tag_name : List ℕ → List ℕ
tag_name [] = []
tag_name (b ∷ rest) = if b == 32 then [] else b ∷ tag_name rest

-- a slash ends the tag, so its element holds nothing
abbrev pub is_lone : List ℕ → Bool
is_lone tag = fold (λ _ b. b == 47) false tag

-- the names of open elements, the last opened first, after the one of that name is closed; none
-- where another was opened last
abbrev pub after_closing : List (List ℕ) → List ℕ → Option (List (List ℕ))
after_closing [] name = None
after_closing (last ∷ others) name = if bytes_eq last name then Some others else None

-- the names of open elements after a tag that closes none
abbrev pub after_opening : List (List ℕ) → List ℕ → List (List ℕ)
after_opening names tag = if is_lone tag then names else tag_name tag ∷ names

-- the names of open elements after a tag; none where it closes another than the last opened
abbrev pub after_tag : Option (List (List ℕ)) → List ℕ → Option (List (List ℕ))
after_tag None tag = None
after_tag (Some names) [] = None
after_tag (Some names) (b ∷ rest) =
    if b == 47 then after_closing names rest else Some (after_opening names (b ∷ rest))
