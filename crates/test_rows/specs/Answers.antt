-- Answers that are said piece by piece. A text is its bytes.
use Rattle.std.specs.Prelude.{ℕ, ◌≡◌, ◌++◌, List, false, string_bytes}
use Rattle.test_rows.specs.declared.answer.Answer.{Answer}

-- just that text was said, and no memory was refused
abbrev pub HasSaid : Answer → List ℕ → Type 0
HasSaid answer text = (answer.is_refused ≡ false) × (string_bytes answer.text ≡ text)

-- the text is said after what was said before, unless memory is refused
abbrev pub Says : Answer → List ℕ → Answer → Type 0
Says old text new = new.is_refused ≡ false → (old.is_refused ≡ false)
    × (string_bytes new.text ≡ string_bytes old.text ++ text)
