-- The texts of values, one after the other.
use Rattle.std.specs.Prelude.{ℕ, ◌≡◌, ◌≤◌, ◌+◌, List, Option, Some, None, length, slice_range}
use Rattle.std.specs.Option.{ForSome}
use Rattle.std.specs.Str.{IsUtf8}
use Rattle.tag.specs.Limits.{value_limit}
use Rattle.recorder.specs.declared.row_table.Span.{Span}

-- the text that stands there
abbrev pub text_at : List ℕ → Span → List ℕ
text_at texts span = slice_range texts span.start (span.start + span.length)

-- a value's text stands there
pub record IsValueAt (texts : List ℕ) (span : Span) : Type 0 where
  pub within : span.start + span.length ≤ length texts
  pub short : span.length ≤ value_limit
  pub utf8 : IsUtf8 (text_at texts span)

-- the value that stands there, if there is one
abbrev pub value_in : List ℕ → Option Span → Option (List ℕ)
value_in texts None = None
value_in texts (Some span) = Some (text_at texts span)

-- the value, if there is one, stands there
pub record KeepsValue (texts : List ℕ) (span : Option Span) (value : Option (List ℕ)) : Type 0 where
  pub there : ForSome span (IsValueAt texts)
  pub shown : value_in texts span ≡ value
