-- What stands around what a page says and shows: its head, and its title.
use Rattle.std.specs.Prelude.{ℕ, List, [], ◌∷◌, ◌++◌, codes}
use Rattle.markup.specs.Markup.{Markup, NamedText, text, empty, element, both, opening_tag}
use Rattle.markup.specs.Markup.{closing_tag, rendered}
use Rattle.markup.specs.declared.names.AttributeName.TheVariants as name
use Rattle.markup.specs.declared.names.Element.TheVariants as tag
use Rattle.draw_command.specs.declared.words.TheConstants as word

-- the language of a page
abbrev pub language : List NamedText
language = record { name = name.Lang; value = word.LANGUAGE.now } ∷ []

-- what a browser has to know
abbrev pub metas_markup : Markup
metas_markup = both (empty tag.Meta (record { name = name.Charset; value = word.CHARSET.now } ∷ []))
    (empty tag.Meta (record { name = name.Name; value = word.VIEWPORT_NAME.now }
    ∷ record { name = name.Content; value = word.VIEWPORT.now } ∷ []))

-- a page's head: what a browser has to know, the title, and the styles
abbrev pub head_markup : Markup → Markup → Markup
head_markup title styles =
    element tag.Head [] (both metas_markup (both (element tag.Title [] title) styles))

-- a page's body: the title, and what the page says and shows
abbrev pub body_markup : Markup → Markup → Markup
body_markup title content =
    element tag.Body [] (element tag.Main [] (both (element tag.H1 [] title) content))

-- the page whose title says that, with those styles around its content
abbrev pub titled_frame : Markup → Markup → Markup → Markup
titled_frame title styles content =
    element tag.Html language (both (head_markup title styles) (body_markup title content))

-- the page of that title and those styles around its content
abbrev pub page_frame : List ℕ → Markup → Markup → Markup
page_frame title styles content = titled_frame (text title) styles content

-- what a browser is told before all else
abbrev pub page_begin : List ℕ
page_begin = codes "<!DOCTYPE html>\n" ++ opening_tag tag.Html language
    ++ opening_tag tag.Head [] ++ rendered metas_markup

-- what stands between the styles and the title
abbrev pub content_begin : List ℕ
content_begin = closing_tag tag.Head ++ opening_tag tag.Body [] ++ opening_tag tag.Main []

-- its bytes below the content
abbrev pub below_content : List ℕ
below_content = closing_tag tag.Main ++ closing_tag tag.Body ++ closing_tag tag.Html

-- its bytes above the styles
abbrev pub above_styles : List ℕ → List ℕ
above_styles title = page_begin ++ rendered (element tag.Title [] (text title))

-- its bytes between the styles and the content
abbrev pub above_content : List ℕ → List ℕ
above_content title = content_begin ++ rendered (element tag.H1 [] (text title))

-- the bytes of a page whose title says that, with those styles, around its content
abbrev pub framed_bytes : Markup → Markup → List ℕ → List ℕ
framed_bytes title styles content = ((((page_begin ++ rendered (element tag.Title [] title))
    ++ rendered styles) ++ content_begin ++ rendered (element tag.H1 [] title)) ++ content)
    ++ below_content
