-- A text, piece by piece.
use Rattle.std.proofs.Common.{ℕ, ◌≡◌, List, ◌++◌, decimal, sym, ap, ◌∙◌, append_assoc}

-- one piece more
pub more : (old mid new p q : List ℕ) → mid ≡ old ++ p → new ≡ mid ++ q → new ≡ old ++ (p ++ q)
more old mid new p q before added = added ∙ ap (λ (x : List ℕ). x ++ q) before ∙ append_assoc old p q

-- one piece more, which is the same as another
pub more_same : (old mid new p q r : List ℕ) → q ≡ r → mid ≡ old ++ p → new ≡ mid ++ q → new ≡ old ++ (p ++ r)
more_same old mid new p q r same before added = more old mid new p q before added ∙ ap (λ (x : List ℕ). old ++ (p ++ x)) same

-- two pieces more
pub more_two : (old mid new p q r : List ℕ) → mid ≡ old ++ p → new ≡ mid ++ (q ++ r) → new ≡ old ++ (p ++ q ++ r)
more_two old mid new p q r before added =
    more old mid new p (q ++ r) before added ∙ ap (λ (x : List ℕ). old ++ x) (sym (append_assoc p q r))

-- words and a number, at first
pub number : (old new words : List ℕ) (m n : ℕ) → m ≡ n → new ≡ old ++ (words ++ decimal m) → new ≡ old ++ (words ++ decimal n)
number old new words m n same added = added ∙ ap (λ (k : ℕ). old ++ (words ++ decimal k)) same

-- words and a number more
pub more_number : (old mid new p words : List ℕ) (m n : ℕ) → m ≡ n → mid ≡ old ++ p → new ≡ mid ++ (words ++ decimal m) → new ≡ old ++ (p ++ words ++ decimal n)
more_number old mid new p words m n same before added =
    more_two old mid new p words (decimal n) before (number mid new words m n same added)
