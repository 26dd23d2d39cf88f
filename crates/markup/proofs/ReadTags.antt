-- The tags that are read off a page are those of its elements.
use Rattle.std.proofs.Common.{ℕ, ◌≡◌, Bool, true, false, not, ◌||◌, ◌==◌, List, [], ◌∷◌, ◌++◌, flat_map, fold, codes, refl}
use Rattle.std.proofs.Common.{sym, ap, ◌∙◌, append_assoc, append-nil}
use Rattle.std.specs.List.{list_all}
use Rattle.std.proofs.lemmas.Bool.{and_parts, and_from, not-true, false≢true}
use Rattle.std.proofs.lemmas.List.Folds.{list_all-append}
use Rattle.std.proofs.lemmas.List.Sums.{fold-append}
use Rattle.markup.specs.declared.names.Element.{Element}
use Rattle.markup.specs.Escapes.{escaped, is_harmless}
use Rattle.markup.specs.Names.{attribute_name, element_name}
use Rattle.markup.specs.Markup.{Markup, nothing, text, line_end, empty, element, both, NamedText, attribute_text, element_tag}
use Rattle.markup.specs.Markup.{opening_tag, closing_tag, lone_tag, rendered, page_text}
use Rattle.markup.specs.PageTags.{Reading, between, within, after_byte, reading_of, page_tags}
use Rattle.sentences.proofs.Bytes.{weaker}
use Rattle.markup.proofs.Harmless.{escaped_harmless}
use Rattle.markup.proofs.NamesAreWords.{is_word, is_word_byte, element_is_word, attribute_is_word}

-- no greater-than sign: the byte ends no tag;  no less-than sign: it begins none
abbrev goes_on : ℕ → Bool
goes_on b = not (b == 62)

abbrev begins_none : ℕ → Bool
begins_none b = not (b == 60)

second_of_four : (a b c d : Bool) → not (a || b || c || d) ≡ true → not b ≡ true
second_of_four true b c d h = absurd (false≢true h)
second_of_four false true c d h = h
second_of_four false false c d h = refl

first_of_four : (a b c d : Bool) → not (a || b || c || d) ≡ true → not a ≡ true
first_of_four true b c d h = h
first_of_four false b c d h = refl

last_of_four : (a b c d : Bool) → not (a || b || c || d) ≡ true → not d ≡ true
last_of_four true b c d h = absurd (false≢true h)
last_of_four false true c d h = absurd (false≢true h)
last_of_four false false true d h = absurd (false≢true h)
last_of_four false false false d h = h

all_append : (p : ℕ → Bool) (xs ys : List ℕ) → list_all p xs ≡ true → list_all p ys ≡ true → list_all p (xs ++ ys) ≡ true
all_append p xs ys ex ey = list_all-append p xs ys ∙ and_from _ _ ex ey

harmless_goes_on : (bs : List ℕ) → list_all is_harmless bs ≡ true → list_all goes_on bs ≡ true
harmless_goes_on = weaker is_harmless goes_on (λ b. second_of_four (b == 60) (b == 62) (b == 34) (b == 39))

harmless_begins_none : (bs : List ℕ) → list_all is_harmless bs ≡ true → list_all begins_none bs ≡ true
harmless_begins_none = weaker is_harmless begins_none (λ b. first_of_four (b == 60) (b == 62) (b == 34) (b == 39))

pub word_bytes : (bs : List ℕ) → is_word bs ≡ true → list_all is_word_byte bs ≡ true
word_bytes [] e = absurd (false≢true e)
word_bytes (b ∷ bs) e = e

word_goes_on : (bs : List ℕ) → is_word bs ≡ true → list_all goes_on bs ≡ true
word_goes_on bs e = weaker is_word_byte goes_on (λ b. last_of_four (b == 32) (b == 47) (b == 60) (b == 62)) bs (word_bytes bs e)

attribute_goes_on : (a : NamedText) → list_all goes_on (attribute_text a) ≡ true
unfolding attribute_text
attribute_goes_on a =
    let name = attribute_name a.name in
    let named = all_append goes_on (codes " ") name refl (word_goes_on name (attribute_is_word a.name)) in
    let begun = all_append goes_on (codes " " ++ name) (codes "=\"") named refl in
    let value = harmless_goes_on (escaped a.value) (escaped_harmless a.value) in
    let valued = all_append goes_on (codes " " ++ name ++ codes "=\"") (escaped a.value) begun value in
    all_append goes_on (codes " " ++ name ++ codes "=\"" ++ escaped a.value) (codes "\"") valued refl

attributes_go_on : (given : List NamedText) → list_all goes_on (flat_map attribute_text given) ≡ true
attributes_go_on [] = refl
attributes_go_on (a ∷ given) =
    all_append goes_on (attribute_text a) (flat_map attribute_text given) (attribute_goes_on a) (attributes_go_on given)

tag_goes_on : (e : Element) (given : List NamedText) → list_all goes_on (element_tag e given) ≡ true
unfolding element_tag
tag_goes_on e given =
    all_append goes_on (element_name e) (flat_map attribute_text given)
    (word_goes_on (element_name e) (element_is_word e)) (attributes_go_on given)

-- bytes that end no tag belong to the one that has begun
gathers : (tags : List (List ℕ)) (tag bs : List ℕ) → list_all goes_on bs ≡ true
    → fold after_byte (within tags tag) bs ≡ within tags (tag ++ bs)
gathers tags tag [] e = ap (λ (t : List ℕ). within tags t) (sym (append-nil tag))
gathers tags tag (b ∷ bs) e =
    let parts = and_parts (goes_on b) (list_all goes_on bs) e in
    let step : after_byte (within tags tag) b ≡ within tags (tag ++ b ∷ []) = rw (not-true (b == 62) parts.0) refl in
    ap (λ (r : Reading). fold after_byte r bs) step ∙ gathers tags (tag ++ b ∷ []) bs parts.1
    ∙ ap (λ (t : List ℕ). within tags t) (append_assoc tag (b ∷ []) bs)

-- bytes that begin no tag add none
passes : (tags : List (List ℕ)) (bs : List ℕ) → list_all begins_none bs ≡ true → fold after_byte (between tags) bs ≡ between tags
passes tags [] e = refl
passes tags (b ∷ bs) e =
    let parts = and_parts (begins_none b) (list_all begins_none bs) e in
    let step : after_byte (between tags) b ≡ between tags = rw (not-true (b == 60) parts.0) refl in
    ap (λ (r : Reading). fold after_byte r bs) step ∙ passes tags bs parts.1

one_tag : (tags : List (List ℕ)) (bs : List ℕ) → list_all goes_on bs ≡ true
    → fold after_byte (between tags) ((60 ∷ bs) ++ 62 ∷ []) ≡ between (tags ++ bs ∷ [])
one_tag tags bs e = fold-append after_byte (between tags) (60 ∷ bs) (62 ∷ [])
    ∙ ap (λ (r : Reading). fold after_byte r (62 ∷ [])) (gathers tags [] bs e)

text_read : (tags : List (List ℕ)) (words : List ℕ) → fold after_byte (between tags) (escaped words) ≡ between tags
text_read tags words = passes tags (escaped words) (harmless_begins_none (escaped words) (escaped_harmless words))

opening_read : (tags : List (List ℕ)) (e : Element) (given : List NamedText)
    → fold after_byte (between tags) (opening_tag e given) ≡ between (tags ++ element_tag e given ∷ [])
unfolding opening_tag
opening_read tags e given = one_tag tags (element_tag e given) (tag_goes_on e given)

closing_read : (tags : List (List ℕ)) (e : Element)
    → fold after_byte (between tags) (closing_tag e) ≡ between (tags ++ (codes "/" ++ element_name e) ∷ [])
unfolding closing_tag
closing_read tags e = one_tag tags (47 ∷ element_name e) (word_goes_on (element_name e) (element_is_word e))

lone_read : (tags : List (List ℕ)) (e : Element) (given : List NamedText)
    → fold after_byte (between tags) (lone_tag e given) ≡ between (tags ++ (element_tag e given ++ codes " /") ∷ [])
unfolding lone_tag
lone_read tags e given =
    let tag = element_tag e given in
    ap (λ (bs : List ℕ). fold after_byte (between tags) (60 ∷ bs)) (sym (append_assoc tag (codes " /") (62 ∷ [])))
    ∙ one_tag tags (tag ++ codes " /") (all_append goes_on tag (codes " /") (tag_goes_on e given) refl)

-- one tag, others, and one more
in_order : (tags inside : List (List ℕ)) (first last : List ℕ)
    → (tags ++ first ∷ []) ++ inside ++ last ∷ [] ≡ tags ++ (first ∷ inside ++ last ∷ [])
in_order tags inside first last =
    ap (λ (ts : List (List ℕ)). ts ++ last ∷ []) (append_assoc tags (first ∷ []) inside) ∙ append_assoc tags (first ∷ inside) (last ∷ [])

pub markup_read : (m : Markup) (tags : List (List ℕ)) → fold after_byte (between tags) (rendered m) ≡ between (tags ++ page_tags m)
unfolding rendered
markup_read nothing tags = ap (λ (ts : List (List ℕ)). between ts) (sym (append-nil tags))
markup_read (text words) tags = text_read tags words ∙ ap (λ (ts : List (List ℕ)). between ts) (sym (append-nil tags))
markup_read line_end tags = ap (λ (ts : List (List ℕ)). between ts) (sym (append-nil tags))
markup_read (empty e given) tags = lone_read tags e given
markup_read (element e given inside) tags =
    let first = element_tag e given in
    let last = codes "/" ++ element_name e in
    fold-append after_byte (between tags) (opening_tag e given ++ rendered inside) (closing_tag e)
    ∙ ap (λ (r : Reading). fold after_byte r (closing_tag e)) (fold-append after_byte (between tags) (opening_tag e given) (rendered inside))
    ∙ ap (λ (r : Reading). fold after_byte (fold after_byte r (rendered inside)) (closing_tag e)) (opening_read tags e given)
    ∙ ap (λ (r : Reading). fold after_byte r (closing_tag e)) (markup_read inside (tags ++ first ∷ []))
    ∙ closing_read ((tags ++ first ∷ []) ++ page_tags inside) e
    ∙ ap (λ (ts : List (List ℕ)). between ts) (in_order tags (page_tags inside) first last)
markup_read (both one two) tags = fold-append after_byte (between tags) (rendered one) (rendered two)
    ∙ ap (λ (r : Reading). fold after_byte r (rendered two)) (markup_read one tags)
    ∙ markup_read two (tags ++ page_tags one)
    ∙ ap (λ (ts : List (List ℕ)). between ts) (append_assoc tags (page_tags one) (page_tags two))

-- a page's tags are read off its bytes
pub page_read : (m : Markup) → reading_of (page_text m) ≡ between (codes "!DOCTYPE html" ∷ page_tags m)
unfolding page_text
page_read m = fold-append after_byte (between []) (codes "<!DOCTYPE html>\n") (rendered m) ∙ markup_read m (codes "!DOCTYPE html" ∷ [])
