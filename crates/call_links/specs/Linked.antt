-- Sentences in which the numbers of calls are links to their bars.
use Rattle.std.specs.Prelude.{ℕ, ◌==◌, ◌&&◌, not, Bool, false, if◌then◌else◌}
use Rattle.std.specs.Prelude.{List, [], ◌∷◌, ◌++◌, Option, Some, None, decimal, drop, length}
use Rattle.std.specs.Prelude.{nat_eq, slice_get}
use Rattle.std.specs.List.{slice_split, starts_with}
use Rattle.std.specs.Str.{bytes_eq}
use Rattle.markup.specs.Markup.{Markup, nothing, text, element, both}
use Rattle.markup.specs.declared.names.AttributeName.TheVariants as name
use Rattle.markup.specs.declared.names.Element.TheVariants as tag
use Rattle.sentences.specs.Hidden.{is_between}
use Rattle.tag.specs.declared.numbers.OpId.{OpId}
use Rattle.call_links.specs.declared.linked.Before.{Before}
use Rattle.call_links.specs.declared.linked.Before.TheVariants as before
use Rattle.call_links.specs.declared.style.TheConstants.{BLANK, CALL}

-- the byte, if there is one, is a digit
abbrev pub is_digit : Option ℕ → Bool
is_digit None = false
is_digit (Some byte) = is_between 48 57 byte

-- what follows the number at the beginning of a word, unless that is a digit
abbrev pub rest_after : List ℕ → List ℕ → Option (List ℕ)
rest_after word number = if starts_with nat_eq word number
    && not (is_digit (slice_get (drop (length number) word) 0))
    then Some (drop (length number) word) else None

-- the number of a call as a link to its bar, and what follows it; or else something other
abbrev pub link_or : List ℕ → OpId → Option (List ℕ) → Markup → Markup
link_or targets call None other = other
link_or targets call (Some rest) other = both
    (element tag.A (record { name = name.Href; value = targets ++ decimal call.0 } ∷ [])
    (text (decimal call.0)))
    (text rest)

-- a word, in which the number of the call that it names, if that is one of these, is a link
abbrev pub named_word : List ℕ → List OpId → List ℕ → Markup
named_word targets [] word = text word
named_word targets (call ∷ calls) word =
    link_or targets call (rest_after word (decimal call.0)) (named_word targets calls word)

-- what stands before a word
abbrev pub kind_of : List ℕ → Before
kind_of word = if bytes_eq word CALL.now then before.Call else before.Other

-- a word of a sentence, after a blank if it isn't the first; a call is named after the word `call`
abbrev pub word_markup : List ℕ → List OpId → Before → List ℕ → Markup
word_markup targets calls before.Nothing word = text word
word_markup targets calls before.Call word =
    both (text BLANK.now) (named_word targets calls word)
word_markup targets calls before.Other word = both (text BLANK.now) (text word)

-- words of a sentence, one after another
abbrev pub words_markup : List ℕ → List OpId → Before → List (List ℕ) → Markup
words_markup targets calls b [] = nothing
words_markup targets calls b (word ∷ words) =
    both (word_markup targets calls b word) (words_markup targets calls (kind_of word) words)

-- the sentence, in which the number of each of the calls that stands after the word `call` is a
-- link to the call's bar: it begins with `targets`
abbrev pub linked : List ℕ → List OpId → List ℕ → Markup
linked targets calls sentence =
    words_markup targets calls before.Nothing (slice_split (λ byte. byte == 32) sentence)
