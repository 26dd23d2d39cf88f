use Rattle.std.proofs.Common.{ℕ, ◌≡◌, ◌<◌, ◌∷◌, List, length, sym, ap, ◌∙◌, subst, eqb-true}
use Rattle.std.specs.List.{before_first, after_first}
use Rattle.tag.proofs.Below.{above_zero}
use Rattle.fault_script.specs.Words.{is_space, words, behind_word}
use Rattle.fault_script.proofs.WordLemmas.{words-none, words-some}
use Rattle.fault_script.proofs.words.next_word.Goals as goal

pub returns-then-is_empty-clause-words : goal.returns-then-is_empty-clause-words
returns-then-is_empty-clause-words c =
    let left = c.without_spaces-text.result.now in
    let none : length left ≡ 0 = eqb-true (length left) 0 (sym c.is_empty.ensures ∙ c.if-is_empty.true) in
    words-none c.args.text.now (sym (ap length c.without_spaces-text.ensures) ∙ none)

pub returns-clause-words : goal.returns-clause-words
returns-clause-words c =
    let left = c.without_spaces-text.result.now in
    let some : 0 < length left = above_zero (length left) (sym c.is_empty.ensures ∙ c.if-is_empty.false) in
    let P : List ℕ → Type 0 = λ t. 0 < length t in
    let Q : List ℕ → Type 0 = λ t. words c.args.text.now ≡ before_first is_space t ∷ words (after_first is_space t) in
    rw (c.cut_at_space.ensures.before, c.cut_at_space.ensures.after)
    (subst Q (sym c.without_spaces-text.ensures) (words-some c.args.text.now (subst P c.without_spaces-text.ensures some)))

pub returns-clause-behind : goal.returns-clause-behind
unfolding behind_word
returns-clause-behind c = c.cut_at_space.ensures.after ∙ ap (after_first is_space) c.without_spaces-text.ensures
