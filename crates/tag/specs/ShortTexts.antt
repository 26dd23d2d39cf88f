-- How a short text lies in a row of 14 bytes.
use Rattle.std.specs.Prelude.{ℕ, ◌≤◌, length, take}
use Rattle.std.specs.Str.{IsUtf8}
use Rattle.tag.specs.declared.short_text.ShortText.TheInside.{Inside}

-- how many bytes a short text may have
abbrev pub short_limit : ℕ
short_limit = 14

-- the row has the text's bytes first
pub record IsStored (s : Inside) : Type 0 where
  pub fits : s.count ≤ length s.bytes
  pub utf8 : IsUtf8 (take s.count s.bytes)
