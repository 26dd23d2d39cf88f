-- Answers that are the same over a span of numbers.
use Rattle.std.specs.Prelude.{ℕ, ◌≡◌, ◌≢◌, List, [], ◌∷◌, ◌++◌, codes, decimal, string_bytes}
use Rattle.test_rows.specs.declared.spans.Spans.{Spans}

-- the line of a span of numbers with one answer; none where there is no answer
abbrev pub span_line : ℕ → ℕ → List ℕ → List ℕ
span_line first last [] = []
span_line first last (byte ∷ bytes) =
    decimal first ++ codes " to " ++ decimal last ++ codes ": " ++ (byte ∷ bytes) ++ codes "\n"

-- the lines of the spans, with that of the one under way
abbrev pub span_lines : Spans → List ℕ
span_lines spans =
    string_bytes spans.text ++ span_line spans.first spans.last (string_bytes spans.answer)

-- the number comes to the span under way where its answer is the same; else that span's line is
-- written, and another one begins
pub record GoesOn (old : Spans) (number : ℕ) (answer : List ℕ) (new : Spans) : Type 0 where
  pub same : answer ≡ string_bytes old.answer → (string_bytes new.text ≡ string_bytes old.text)
      × (new.first ≡ old.first)
  pub other : answer ≢ string_bytes old.answer → (string_bytes new.text ≡ span_lines old)
      × (new.first ≡ number)
  pub last : new.last ≡ number
  pub answered : string_bytes new.answer ≡ answer
