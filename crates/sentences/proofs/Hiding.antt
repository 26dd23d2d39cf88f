-- Ranges of characters that are hidden.
use Rattle.std.proofs.Common.{ℕ, ◌≡◌, ◌<◌, ◌≤◌, ◌+◌, ◌-◌, true, sym, ap, ◌∙◌, arith}
use Rattle.std.proofs.lemmas.Bool.{agree_below, agree_below_at}
use Rattle.sentences.specs.Hidden.{is_hidden}

-- so many characters, from that one on
pub hidden_from : (first count : ℕ) → agree_below (λ k. is_hidden (first + k)) (λ _. true) count ≡ true
    → (c : ℕ) → first ≤ c → c < first + count → is_hidden c ≡ true
hidden_from first count all c from below =
    let at : first + (c - first) ≡ c = omega (arith, from) in
    sym (ap is_hidden at) ∙ agree_below_at (λ k. is_hidden (first + k)) (λ _. true) count (c - first) all (omega (arith, from, below))
