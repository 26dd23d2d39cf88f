-- The first of judged keys, a section, a page's content, and the page around it.
use Rattle.std.proofs.Common.{ℕ, Bool, ◌≡◌, ◌||◌, List, [], ◌∷◌, ◌++◌, Option, append_assoc, codes, length, map, min, take, refl, sym, ap, ◌∙◌, subst}
use Rattle.std.specs.List.{list_any}
use Rattle.std.proofs.lemmas.List.{take-map, take_min}
use Rattle.std.proofs.Math.Nat.{min_comm}
use Rattle.markup.specs.Markup.{Markup, both, closing_tag, element, opening_tag, page_text, rendered, text}
use Rattle.markup.specs.declared.names.Element.TheVariants as tag
use Rattle.draw_command.specs.Frames.{above_content, above_styles, below_content, content_begin, framed_bytes, language, metas_markup, page_frame, titled_frame}
use Rattle.history_file.specs.declared.numbered_format.NumberedHistories.{NumberedHistories}
use Rattle.pictures.specs.declared.picture.Picture.{Picture}
use Rattle.tag.specs.declared.numbers.OpId.{OpId}
use Rattle.judged_keys.specs.Judgements.{Judgement}
use Rattle.call_links.specs.Ids.{bar_targets}
use Rattle.draw_command.specs.Making.{Adds}
use Rattle.draw_command.specs.Pages.{IsFramed, IsPictureOf, IsSectionOf, content_markup, hall_among, section_markup}
use Rattle.draw_command.specs.declared.drawn.Drawn.{Drawn}
use Rattle.draw_command.proofs.Adding.{adds_after, adds_both}

-- what a function makes of the first so many, or of as many as there are
pub first_ones : {X Y : Type 0} (f : X → Y) (xs first : List X) (n : ℕ) → first ≡ take (min (length xs) n) xs → map f first ≡ take n (map f xs)
first_ones f xs first n is = ap (map f) (is ∙ ap (λ (k : ℕ). take k xs) (min_comm (length xs) n) ∙ take_min n xs) ∙ sym (take-map f n xs)

regroup : (first html head metas name styles head_end body main title content main_end body_end html_end : List ℕ)
    → (((((first ++ html ++ head ++ metas) ++ name) ++ styles) ++ (head_end ++ body ++ main) ++ title) ++ content) ++ (main_end ++ body_end ++ html_end)
    ≡ first ++ (html ++ ((head ++ (metas ++ (name ++ styles)) ++ head_end) ++ (body ++ (main ++ (title ++ content) ++ main_end) ++ body_end)) ++ html_end)
regroup first html head metas name styles head_end body main title content main_end body_end html_end = simp append_assoc

-- the pieces of a page's frame stand around its styles and its content
framed_text : (title styles content : Markup) → framed_bytes title styles (rendered content) ≡ page_text (titled_frame title styles content)
unfolding page_text rendered
framed_text title styles content =
    regroup (codes "<!DOCTYPE html>\n") (opening_tag tag.Html language) (opening_tag tag.Head []) (rendered metas_markup) (rendered (element tag.Title [] title)) (rendered styles) (closing_tag tag.Head)
    (opening_tag tag.Body []) (opening_tag tag.Main []) (rendered (element tag.H1 [] title)) (rendered content) (closing_tag tag.Main) (closing_tag tag.Body) (closing_tag tag.Html)

-- the page around what was added between them
pub page_framed : (title : List ℕ) (styles : Markup) (Is : Markup → Type 0) (none begun styled opened said whole : List ℕ) → none ≡ [] → begun ≡ none ++ above_styles title → styled ≡ begun ++ rendered styles
    → opened ≡ styled ++ above_content title → Adds Is opened said → whole ≡ said ++ below_content → (page : Markup) × IsFramed (page_frame title styles) Is page × (whole ≡ page_text page)
page_framed title styles Is none begun styled opened said whole empty first styles_added second added last = (
  page_frame title styles added.0,
  (added.0, added.1, refl),
  last ∙ ap (λ (l : List ℕ). l ++ below_content)
      (added.2 ∙ ap (λ (l : List ℕ). l ++ rendered added.0)
      (second ∙ ap (λ (l : List ℕ). l ++ above_content title)
      (styles_added ∙ ap (λ (l : List ℕ). l ++ rendered styles) (first ∙ ap (λ (l : List ℕ). l ++ above_styles title) empty))))
      ∙ ap (λ (l : List ℕ). (l ++ rendered added.0) ++ below_content) (sym (append_assoc (above_styles title ++ rendered styles) content_begin (rendered (element tag.H1 [] (text title)))))
      ∙ framed_text (text title) styles added.0,
)

-- the page around bytes that were made before it
pub titled_page : (title styles : Markup) (Is : Markup → Type 0) (content whole : List ℕ) → Adds Is [] content → whole ≡ framed_bytes title styles content
    → (page : Markup) × IsFramed (titled_frame title styles) Is page × (whole ≡ page_text page)
titled_page title styles Is content whole added made =
    (titled_frame title styles added.0, (added.0, added.1, refl), made ∙ ap (framed_bytes title styles) added.2 ∙ framed_text title styles added.0)

-- a page's content: what stands above a table, the table, what stands below it, and sections
pub content_added : (front below : Markup) (IsTable IsSections : Markup → Type 0) (old a b d new : List ℕ) → a ≡ old ++ rendered front → Adds IsTable a b → d ≡ b ++ rendered below → Adds IsSections d new
    → Adds (λ m. (table : Markup) × (sections : Markup) × IsTable table × IsSections sections × (m ≡ both front (both table (both below sections)))) old new
content_added front below IsTable IsSections old a b d new first tabled under drawn =
    let rest = adds_after IsSections below b d new under drawn in
    let table = adds_both IsTable (IsFramed (both below) IsSections) a b new tabled rest in
    let all = adds_after _ front old a new first table in
    let t = all.1.1 in
    (all.0, (t.0, t.3.0, t.2, t.3.1, all.1.2 ∙ ap (λ (m : Markup). both front m) (t.4 ∙ ap (λ (m : Markup). both t.0 m) t.3.2)), all.2)

-- a test of what a function makes of each
pub any_map : {X Y : Type 0} (f : X → Y) (test : Y → Bool) (xs : List X) → list_any (λ x. test (f x)) xs ≡ list_any test (map f xs)
any_map f test [] = refl
any_map f test (x ∷ xs) = ap (λ (b : Bool). test (f x) || b) (any_map f test xs)

-- the section of a picture, with links that begin with the targets of its bars
pub section_added : (numbered : NumberedHistories) (drawn : Drawn) (refused : Bool) (n : ℕ) (key : Judgement) (words : List ℕ) (picture : Picture)
    → IsPictureOf numbered drawn n key words picture → (hall : Option ℕ) → hall ≡ hall_among (length numbered.histories.halls) key.one.key
    → (targets : List ℕ) → targets ≡ bar_targets n → (faulty : List OpId) → picture.faulty.now ≡ faulty → (old new : List ℕ)
    → new ≡ old ++ rendered (section_markup n refused hall key (content_markup targets picture.faulty.now words drawn.around picture))
    → Adds (IsSectionOf numbered drawn refused n (key, faulty)) old new
section_added numbered drawn refused n key words picture is hall its targets same faulty marked old new added =
    let own = hall_among (length numbered.histories.halls) key.one.key in
    let section = λ (h : Option ℕ) (ts : List ℕ) (calls : List OpId). section_markup n refused h key (content_markup ts calls words drawn.around picture) in (
      section own (bar_targets n) faulty,
      (words, picture, is, marked, refl),
      subst (λ (calls : List OpId). new ≡ old ++ rendered (section own (bar_targets n) calls)) marked
          (subst (λ (ts : List ℕ). new ≡ old ++ rendered (section own ts picture.faulty.now)) same
          (subst (λ (h : Option ℕ). new ≡ old ++ rendered (section h targets picture.faulty.now)) its added)),
    )
