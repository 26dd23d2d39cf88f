-- Texts that are parts of shared bytes.
use Rattle.std.specs.Prelude.{ℕ, ◌≡◌, ◌≤◌, List, [], Option, Some, None, length, slice_range}
use Rattle.std.specs.Str.{IsUtf8}
use Rattle.file_format.specs.declared.line_texts.Span.{Span}
use Rattle.file_format.specs.declared.line_texts.SharedTexts.TheInside.{Inside}

-- a key's text and a value's
pub record TwoTexts : Type 0 where
  pub key : List ℕ
  pub value : List ℕ

-- the bytes from the start to the end
abbrev pub text_at : List ℕ → Span → List ℕ
text_at bytes span = slice_range bytes span.start span.end

-- they are there, and are a text
pub record IsTextAt (bytes : List ℕ) (span : Span) : Type 0 where
  pub rising : span.start ≤ span.end
  pub within : span.end ≤ length bytes
  pub utf8 : IsUtf8 (text_at bytes span)

-- they are that text
pub record StandsAt (bytes : List ℕ) (span : Span) (text : List ℕ) : Type 0 where
  pub there : IsTextAt bytes span
  pub same : text_at bytes span ≡ text

-- the two texts that stand in the bytes
abbrev pub texts_there : Inside → TwoTexts
texts_there t = record {
  key = text_at t.bytes.value.items t.key;
  value = text_at t.bytes.value.items t.value;
}

-- the two texts, or two empty ones
abbrev pub texts_or_none : Option TwoTexts → TwoTexts
texts_or_none None = record { key = []; value = [] }
texts_or_none (Some texts) = texts

-- both are there
pub record AreThere (t : Inside) : Type 0 where
  pub key : IsTextAt t.bytes.value.items t.key
  pub value : IsTextAt t.bytes.value.items t.value

-- the two texts are these
pub record HaveTexts (first second : List ℕ) (texts : TwoTexts) : Type 0 where
  pub key : texts.key ≡ first
  pub value : texts.value ≡ second
