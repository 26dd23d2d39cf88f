-- A text, piece by piece.
use Rattle.std.proofs.Common.{ℕ, ◌≡◌, List, ◌++◌, ap, ◌∙◌, append_assoc}

-- one piece more
pub more : (old mid new p q : List ℕ) → mid ≡ old ++ p → new ≡ mid ++ q → new ≡ old ++ (p ++ q)
more old mid new p q before added = added ∙ ap (λ (x : List ℕ). x ++ q) before ∙ append_assoc old p q
