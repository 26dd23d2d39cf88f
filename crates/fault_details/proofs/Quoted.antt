-- A text that a writer of JSON has written.
use Rattle.std.proofs.Common.{◌≡◌, ◌++◌, List, ℕ, [], ◌∷◌, ap, ◌∙◌, append-nil}
use Rattle.json.specs.Token.{Token, string}
use Rattle.json.specs.Print.{print, print_from, quoted}

print_one : (s : List ℕ) → print (string s ∷ []) ≡ quoted s
unfolding print_from
print_one s = append-nil (quoted s)

pub alone : (all held text : List ℕ) (old new : List Token) → all ≡ held ++ print new → new ≡ old ++ string text ∷ []
    → old ≡ [] → held ≡ [] → all ≡ quoted text
alone all held text old new printed pushed none kept =
    let tokens : new ≡ string text ∷ [] = pushed ∙ ap (λ (ts : List Token). ts ++ string text ∷ []) none in
    printed ∙ ap (λ (ts : List Token). held ++ print ts) tokens ∙ ap (λ (s : List ℕ). held ++ s) (print_one text)
    ∙ ap (λ (s : List ℕ). s ++ quoted text) kept
