-- Each tag that closes an element closes the one that was opened last.
use Rattle.std.proofs.Common.{ℕ, ◌≡◌, Bool, true, false, not, ◌||◌, ◌==◌, List, [], ◌∷◌, ◌++◌, Option, Some, flat_map, fold}
use Rattle.std.proofs.Common.{codes, refl, sym, ap, ◌∙◌, append_assoc, append-nil}
use Rattle.std.specs.Prelude.{if◌then◌else◌}
use Rattle.std.specs.List.{list_all}
use Rattle.std.proofs.lemmas.Bool.{and_parts, false≢true}
use Rattle.std.proofs.lemmas.List.Sums.{fold-append}
use Rattle.std.proofs.lemmas.Slice.Eq.{bytes_eq-Decides}
use Rattle.markup.specs.declared.names.Element.{Element}
use Rattle.markup.specs.Escapes.{escaped}
use Rattle.markup.specs.Names.{attribute_name, element_name}
use Rattle.markup.specs.Markup.{Markup, nothing, text, line_end, empty, element, both, NamedText, attribute_text, element_tag}
use Rattle.markup.specs.PageTags.{page_tags, tag_name, is_lone, after_closing, after_opening, after_tag}
use Rattle.markup.proofs.ReadTags.{word_bytes}
use Rattle.markup.proofs.NamesAreWords.{is_word, is_word_byte, element_is_word}

no_blank : (a b c d : Bool) → not (a || b || c || d) ≡ true → a ≡ false
no_blank true b c d h = absurd (false≢true h)
no_blank false b c d h = refl

no_slash : (a b c d : Bool) → not (a || b || c || d) ≡ true → b ≡ false
no_slash true b c d h = absurd (false≢true h)
no_slash false true c d h = absurd (false≢true h)
no_slash false false c d h = refl

word_byte_slash : (b : ℕ) → is_word_byte b ≡ true → (b == 47) ≡ false
word_byte_slash b e = no_slash (b == 32) (b == 47) (b == 60) (b == 62) e

-- the name is what stands before the first blank
name_before : (n x : List ℕ) → list_all is_word_byte n ≡ true → tag_name (n ++ x) ≡ n ++ tag_name x
name_before [] x e = refl
name_before (b ∷ n) x e =
    let parts = and_parts (is_word_byte b) (list_all is_word_byte n) e in
    rw (no_blank (b == 32) (b == 47) (b == 60) (b == 62) parts.0) (ap (λ (s : List ℕ). b ∷ s) (name_before n x parts.1))

no_name : (given : List NamedText) → tag_name (flat_map attribute_text given) ≡ []
unfolding attribute_text
no_name [] = refl
no_name (a ∷ given) = refl

name_in_tag : (e : Element) (given : List NamedText) → tag_name (element_tag e given) ≡ element_name e
unfolding element_tag
name_in_tag e given = name_before (element_name e) (flat_map attribute_text given) (word_bytes (element_name e) (element_is_word e))
    ∙ ap (λ (s : List ℕ). element_name e ++ s) (no_name given) ∙ append-nil (element_name e)

-- whether the last byte of all is a slash
abbrev ends : Bool → List ℕ → Bool
ends before bs = fold (λ _ b. b == 47) before bs

word_ends : (n : List ℕ) → list_all is_word_byte n ≡ true → ends false n ≡ false
word_ends [] e = refl
word_ends (b ∷ n) e =
    let parts = and_parts (is_word_byte b) (list_all is_word_byte n) e in
    rw (word_byte_slash b parts.0) (word_ends n parts.1)

attribute_ends : (a : NamedText) (before : Bool) → ends before (attribute_text a) ≡ false
unfolding attribute_text
attribute_ends a before = fold-append (λ (_ : Bool) (b : ℕ). b == 47) before
    (codes " " ++ attribute_name a.name ++ codes "=\"" ++ escaped a.value) (codes "\"")

attributes_end : (given : List NamedText) → ends false (flat_map attribute_text given) ≡ false
attributes_end [] = refl
attributes_end (a ∷ given) = fold-append (λ (_ : Bool) (b : ℕ). b == 47) false (attribute_text a) (flat_map attribute_text given)
    ∙ ap (λ (before : Bool). ends before (flat_map attribute_text given)) (attribute_ends a false) ∙ attributes_end given

tag_not_lone : (e : Element) (given : List NamedText) → is_lone (element_tag e given) ≡ false
unfolding element_tag
tag_not_lone e given = fold-append (λ (_ : Bool) (b : ℕ). b == 47) false (element_name e) (flat_map attribute_text given)
    ∙ ap (λ (before : Bool). ends before (flat_map attribute_text given))
    (word_ends (element_name e) (word_bytes (element_name e) (element_is_word e)))
    ∙ attributes_end given

tag_lone : (tag : List ℕ) → is_lone (tag ++ codes " /") ≡ true
tag_lone tag = fold-append (λ (_ : Bool) (b : ℕ). b == 47) false tag (codes " /")

second : (t : Bool) (x y : Option (List (List ℕ))) → t ≡ false → (if t then x else y) ≡ y
second true x y e = absurd (false≢true (sym e))
second false x y e = refl

-- a tag that begins with a word closes nothing
begins_word : (n x : List ℕ) (names : List (List ℕ)) → is_word n ≡ true
    → after_tag (Some names) (n ++ x) ≡ Some (after_opening names (n ++ x))
begins_word [] x names e = absurd (false≢true e)
begins_word (b ∷ n) x names e =
    let parts = and_parts (is_word_byte b) (list_all is_word_byte n) e in
    second (b == 47) (after_closing names (n ++ x)) (Some (after_opening names (b ∷ n ++ x))) (word_byte_slash b parts.0)

opened : (e : Element) (given : List NamedText) (names : List (List ℕ))
    → after_tag (Some names) (element_tag e given) ≡ Some (after_opening names (element_tag e given))
unfolding element_tag
opened e given names = begins_word (element_name e) (flat_map attribute_text given) names (element_is_word e)

lone_opened : (e : Element) (given : List NamedText) (names : List (List ℕ))
    → after_tag (Some names) (element_tag e given ++ codes " /") ≡ Some (after_opening names (element_tag e given ++ codes " /"))
unfolding element_tag
lone_opened e given names =
    let rest = flat_map attribute_text given in
    ap (λ (tag : List ℕ). after_tag (Some names) tag) (append_assoc (element_name e) rest (codes " /"))
    ∙ begins_word (element_name e) (rest ++ codes " /") names (element_is_word e)
    ∙ ap (λ (tag : List ℕ). Some (after_opening names tag)) (sym (append_assoc (element_name e) rest (codes " /")))

kept_by_lone : (names : List (List ℕ)) (tag : List ℕ) → is_lone tag ≡ true → after_opening names tag ≡ names
kept_by_lone names tag lone = rw lone refl

named_by_tag : (names : List (List ℕ)) (tag name : List ℕ) → is_lone tag ≡ false → tag_name tag ≡ name
    → after_opening names tag ≡ name ∷ names
named_by_tag names tag name not_lone named = rw (not_lone, named) refl

closed : (name : List ℕ) (names : List (List ℕ)) → after_closing (name ∷ names) name ≡ Some names
closed name names = rw ((bytes_eq-Decides name name).1 refl) refl

-- what a page holds leaves no element open
pub nested : (m : Markup) (names : List (List ℕ)) → fold after_tag (Some names) (page_tags m) ≡ Some names
nested nothing names = refl
nested (text words) names = refl
nested line_end names = refl
nested (empty e given) names = lone_opened e given names
    ∙ ap (λ (ns : List (List ℕ)). Some ns) (kept_by_lone names (element_tag e given ++ codes " /") (tag_lone (element_tag e given)))
nested (element e given inside) names =
    let name = element_name e in
    let last = (codes "/" ++ name) ∷ [] in
    let first = opened e given names
    ∙ ap (λ (ns : List (List ℕ)). Some ns)
    (named_by_tag names (element_tag e given) name (tag_not_lone e given) (name_in_tag e given)) in
    fold-append after_tag (Some names) (element_tag e given ∷ page_tags inside) last
    ∙ ap (λ (ns : Option (List (List ℕ))). fold after_tag (fold after_tag ns (page_tags inside)) last) first
    ∙ ap (λ (ns : Option (List (List ℕ))). fold after_tag ns last) (nested inside (name ∷ names))
    ∙ closed name names
nested (both one two) names = fold-append after_tag (Some names) (page_tags one) (page_tags two)
    ∙ ap (λ (ns : Option (List (List ℕ))). fold after_tag ns (page_tags two)) (nested one names)
    ∙ nested two names
