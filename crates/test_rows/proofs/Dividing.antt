-- Where a text is divided, and where not.
use Rattle.std.proofs.Common.{ℕ, ◌≡◌, ◌≢◌, ◌+◌, List, [], ◌∷◌, ◌++◌, length, take, codes, sym, ap, subst, ◌∙◌, inl, inr, append_assoc, Option, None, Some, MatchOption, Bor, arith}
use Rattle.std.proofs.Math.Seq.{take-append-add}
use Rattle.std.proofs.lemmas.Str.Pattern.{IsSplitOnceResult, split_after}
use Rattle.test_rows.specs.Rows.{IsOneLine, IsDivided, IsWritten}

-- no division where the line neither begins the text nor stands below an end of a line
pub undivided : (text input expected : List ℕ) → ((rest : List ℕ) → text ≢ codes "---\n" ++ rest) → ((xs ys : List ℕ) → text ≢ xs ++ (codes "\n---\n" ++ ys)) → IsDivided text input expected → ⊥
undivided text input expected first below d =
    elim d.lines [
      | inl e ↦ first expected (subst (λ i. text ≡ i ++ (codes "---\n" ++ expected)) e d.whole)
      | inr p ↦ below p.0 expected (subst (λ i. text ≡ i ++ (codes "---\n" ++ expected)) p.1 d.whole ∙ append_assoc p.0 (10 ∷ []) (codes "---\n" ++ expected))
    ]

-- the input keeps the end of the line above the line that divides
pub divided_below : (text lines input expected : List ℕ) → text ≡ lines ++ (codes "\n---\n" ++ expected) → input ≡ take (length lines + 1) text → IsDivided text input expected
divided_below text lines input expected whole cut =
    let front : input ≡ lines ++ (10 ∷ []) = cut ∙ (ap (take (length lines + 1)) whole ∙ take-append-add lines (codes "\n---\n" ++ expected) 1) in
    record {
      whole = whole ∙ sym (ap (λ i. i ++ (codes "---\n" ++ expected)) front ∙ append_assoc lines (10 ∷ []) (codes "---\n" ++ expected));
      lines = inr (lines, front);
    }

-- a name's line before a text that is divided
pub written : (block name body input expected : List ℕ) → block ≡ name ++ (10 ∷ body) → IsOneLine name → IsDivided body input expected → IsWritten block name input expected
written block name body input expected whole named d =
    record { whole = whole ∙ ap (λ b. name ++ (10 ∷ b)) d.whole; named = named; lines = d.lines }

-- what follows the name's line is divided as the block says
pub divided_by : (block name input expected : List ℕ) (r : Option (Bor (List ℕ) × Bor (List ℕ))) → IsSplitOnceResult 10 block r → IsWritten block name input expected → MatchOption r ⊥ (λ x. IsDivided x.1.now input expected)
divided_by block name input expected None h w = split_after 10 block name (input ++ (codes "---\n" ++ expected)) None h (omega arith) w.whole w.named
divided_by block name input expected (Some x) h w =
    let parts = split_after 10 block name (input ++ (codes "---\n" ++ expected)) (Some x) h (omega arith) w.whole w.named in
    record { whole = parts.1; lines = w.lines }
