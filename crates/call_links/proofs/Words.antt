-- Words of a sentence, one more at the end.
use Rattle.std.proofs.Common.{ℕ, ◌≡◌, List, [], ◌∷◌, ◌++◌, append-nil, append_assoc, refl, sym, ap, ◌∙◌}
use Rattle.markup.specs.Markup.{rendered}
use Rattle.tag.specs.declared.numbers.OpId.{OpId}
use Rattle.call_links.specs.Linked.{kind_of, word_markup, words_markup}
use Rattle.call_links.specs.declared.linked.Before.{Before}

-- what stands before the next word
abbrev pub last_of : Before → List (List ℕ) → Before
last_of b [] = b
last_of b (word ∷ words) = last_of (kind_of word) words

pub last_more : (b : Before) (words : List (List ℕ)) (word : List ℕ) → last_of b (words ++ word ∷ []) ≡ kind_of word
last_more b [] word = refl
last_more b (w ∷ words) word = last_more (kind_of w) words word

pub no_words : (targets : List ℕ) (calls : List OpId) (b : Before) (page : List ℕ) → page ≡ page ++ rendered (words_markup targets calls b [])
unfolding rendered
no_words targets calls b page = sym (append-nil page)

module _ (targets : List ℕ) (calls : List OpId) where
  words_more : (b : Before) (words : List (List ℕ)) (word : List ℕ) → rendered (words_markup targets calls b (words ++ word ∷ []))
      ≡ rendered (words_markup targets calls b words) ++ rendered (word_markup targets calls (last_of b words) word)
  unfolding rendered
  words_more b [] word = append-nil (rendered (word_markup targets calls b word))
  words_more b (w ∷ words) word =
      ap (λ (s : List ℕ). rendered (word_markup targets calls b w) ++ s) (words_more (kind_of w) words word)
      ∙ sym (append_assoc (rendered (word_markup targets calls b w)) (rendered (words_markup targets calls (kind_of w) words)) (rendered (word_markup targets calls (last_of (kind_of w) words) word)))

  -- one word more on a page
  pub word_added : (start b : Before) (words : List (List ℕ)) (word from page next : List ℕ) → b ≡ last_of start words
      → page ≡ from ++ rendered (words_markup targets calls start words) → next ≡ page ++ rendered (word_markup targets calls b word)
      → next ≡ from ++ rendered (words_markup targets calls start (words ++ word ∷ []))
  word_added start b words word from page next last so_far added =
      added ∙ ap (λ (k : Before). page ++ rendered (word_markup targets calls k word)) last
      ∙ ap (λ (p : List ℕ). p ++ rendered (word_markup targets calls (last_of start words) word)) so_far
      ∙ append_assoc from (rendered (words_markup targets calls start words)) (rendered (word_markup targets calls (last_of start words) word))
      ∙ ap (λ (s : List ℕ). from ++ s) (sym (words_more start words word))
