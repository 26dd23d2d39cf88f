-- Lines, piece by piece.
use Rattle.std.proofs.Common.{ℕ, zero, suc, ◌≡◌, List, ◌++◌, codes, decimal, ap, refl, ◌∙◌, append_assoc}
use Rattle.sentences.specs.Words.{quoted_text}
use Rattle.judged_keys.specs.declared.judged.Judged.{Judged}
use Rattle.explain_command.specs.Lines.{left_out_line, left_out_words, missing_text, stale_line}

regroup : (old p q r : List ℕ) → ((old ++ p) ++ q) ++ r ≡ old ++ (p ++ q ++ r)
regroup old p q r = simp append_assoc

pub three : (old p q r a b c : List ℕ) → a ≡ old ++ p → b ≡ a ++ q → c ≡ b ++ r → c ≡ old ++ (p ++ q ++ r)
three old p q r a b c first second third = third ∙ ap (λ (x : List ℕ). x ++ r) (second ∙ ap (λ (x : List ℕ). x ++ q) first) ∙ regroup old p q r

-- no key has the name
pub missing_said : (old a b new name : List ℕ) → a ≡ old ++ codes "no such key " → b ≡ a ++ quoted_text name → new ≡ b ++ codes "\n" → new ≡ old ++ missing_text name
unfolding missing_text
missing_said old a b new name = three old (codes "no such key ") (quoted_text name) (codes "\n") a b new

-- how many refused keys have no reason
pub left_out_said : (old a new words : List ℕ) (judged : Judged) (count : ℕ) → (count ≡ 0 → ⊥) → words ≡ left_out_words judged → a ≡ old ++ (words ++ decimal count) → new ≡ a ++ codes "; --most N says how many are\n" → new ≡ old ++ left_out_line judged count
left_out_said old a new words judged zero some which said ended = absurd (some refl)
left_out_said old a new words judged (suc count) some which said ended =
    let last = codes "; --most N says how many are\n" in
    ended ∙ ap (λ (x : List ℕ). x ++ last) (said ∙ ap (λ (w : List ℕ). old ++ (w ++ decimal (suc count))) which) ∙ append_assoc old (left_out_words judged ++ decimal (suc count)) last

five : (p q r s t : List ℕ) → (p ++ q) ++ (r ++ s) ++ t ≡ p ++ q ++ r ++ s ++ t
five p q r s t = simp append_assoc

-- two numbers with words
pub numbers_said : (old p q r d e a b c : List ℕ) → a ≡ old ++ (p ++ d) → b ≡ a ++ (q ++ e) → c ≡ b ++ r → c ≡ old ++ (p ++ d ++ q ++ e ++ r)
numbers_said old p q r d e a b c first second third = three old (p ++ d) (q ++ e) r a b c first second third ∙ ap (λ (x : List ℕ). old ++ x) (five p d q e r)

-- how many reads are stale
pub stale_said : (old a b c : List ℕ) (stale reads : ℕ) → a ≡ old ++ (codes "  stale reads: " ++ decimal stale) → b ≡ a ++ (codes " of " ++ decimal reads)
    → c ≡ b ++ codes " (a later write had ended before they began)\n" → c ≡ old ++ stale_line stale reads
unfolding stale_line
stale_said old a b c stale reads = numbers_said old (codes "  stale reads: ") (codes " of ") (codes " (a later write had ended before they began)\n") (decimal stale) (decimal reads) a b c
