-- The beginnings of JSON texts.
use Rattle.std.specs.Prelude.{ℕ, ◌≡◌, ◌<◌, ◌≤◌, ◌-◌, ◌==◌, ◌||◌, ◌++◌, ◌∷◌, [], List, Bool, false}
use Rattle.std.specs.Prelude.{true, length, take, nat_eq, IsUtf8}
use Rattle.std.specs.List.{list_all, starts_with}
use Rattle.serde_json.specs.Data.{Data}
use Rattle.row_members.specs.Values.{IsJson}
use Rattle.fault_details.specs.declared.json_line.Broken.{Broken}
use Rattle.fault_details.specs.declared.json_line.Broken.TheVariants as broken

-- the bytes can be gone on with to a JSON text
pub record BeginsJson (bytes : List ℕ) : Type 0 where
  pub rest : List ℕ
  pub value : Data
  pub json : IsJson (bytes ++ rest) value

-- the line has nothing but white space
abbrev pub is_blank : List ℕ → Bool
is_blank line = list_all (λ b. b == 32 || b == 9 || b == 13) line

-- the line begins with a byte order mark
abbrev pub has_mark : List ℕ → Bool
has_mark line = starts_with nat_eq line (239 ∷ 187 ∷ 191 ∷ [])

-- the line has more than white space, and begins with no byte order mark
pub record HasText (line : List ℕ) : Type 0 where
  pub some : is_blank line ≡ false
  pub no_mark : has_mark line ≡ false

-- that is why the line is no JSON text: it is blank, begins with a mark, isn't UTF-8, is the
-- beginning of one, or is so up to the byte before that one, counted from 1
abbrev pub IsReason : List ℕ → Broken → Type 0
IsReason line broken.Blank = is_blank line ≡ true
IsReason line broken.Mark = has_mark line ≡ true
IsReason line broken.NotUtf8 = IsUtf8 line → ⊥
IsReason line broken.EndsEarly = HasText line × BeginsJson line
IsReason line (broken.Invalid place) = HasText line × (0 < place) × (place ≤ length line)
    × BeginsJson (take (place - 1) line)
