-- What stands in a line between two places, in lexemes of JSON.
use Rattle.std.specs.Prelude.{◌≡◌, ◌<◌, ◌≤◌, ◌+◌, ◌-◌, ◌^◌, ◌++◌, ◌∷◌, [], ◌⊎◌, ℕ, List, Option}
use Rattle.std.specs.Prelude.{Some, None, Bool}
use Rattle.std.specs.Prelude.{decimal, drop, get_or, length, option_map, set, slice_range, not}
use Rattle.std.specs.Prelude.{nat_le, ◌&&◌, ◌==◌}
use Rattle.std.specs.Char.{IsAsciiDigit, IsNotAsciiDigit}
use Rattle.json.specs.Lex.{Lexeme, token, colon, lex, between}
use Rattle.json.specs.Token.{string}
use Rattle.serde_json.specs.Data.{Data}
use Rattle.row_members.specs.declared.member.Member.{Member}
use Rattle.row_members.specs.declared.name.Name.{Name}
use Rattle.row_members.specs.Names.{text_of, place_of}
use Rattle.row_members.specs.Scalars.{Scalar, token_of, data_of}
use Rattle.row_members.specs.Values.{member_data}

-- the lexemes from that place on
abbrev pub lexemes_from : List ℕ → ℕ → List Lexeme
lexemes_from line at = lex between (drop at line)

-- a byte that stands for itself in a text: no control character, no quotation mark, no backslash
abbrev pub is_plain : ℕ → Bool
is_plain byte = nat_le 32 byte && not (byte == 34) && not (byte == 92)

-- only white space stands between the places
pub record Skips (line : List ℕ) (start end : ℕ) : Type 0 where
  pub ahead : start ≤ end
  pub within : end ≤ length line
  pub lexed : lexemes_from line start ≡ lexemes_from line end

-- white space and then that byte stand between the places
pub record Passes (line : List ℕ) (start byte end : ℕ) : Type 0 where
  pub ahead : start < end
  pub within : end ≤ length line
  pub lexed : lexemes_from line start ≡ lex between (byte ∷ drop end line)

-- those lexemes stand between the places, with any white space
pub record Holds (line : List ℕ) (start : ℕ) (lexemes : List Lexeme) (end : ℕ) : Type 0 where
  pub ahead : start < end
  pub within : end ≤ length line
  pub lexed : lexemes_from line start ≡ lexemes ++ lexemes_from line end

-- a text in quotation marks without an escape stands between the places
abbrev pub HoldsText : List ℕ → ℕ → ℕ → Type 0
HoldsText line start end =
    (start + 2 ≤ end)
    × Holds line start (token (string (slice_range line (start + 1) (end - 1))) ∷ []) end

-- the bytes begin with the number, of so many digits, after which no digit stands unless they are 19
pub record BeginsWith (bytes : List ℕ) (number count : ℕ) : Type 0 where
  pub some : 0 < count
  pub within : count ≤ length bytes
  pub fits : number < 2 ^ 64
  pub spelled : bytes ≡ decimal number ++ drop count bytes
  pub whole : count < 19 → IsNotAsciiDigit (get_or bytes count 0)

-- the bytes begin with no number: with no digit, or with a zero before a digit
abbrev pub BeginsWithNone : List ℕ → Type 0
BeginsWithNone bytes =
    IsNotAsciiDigit (get_or bytes 0 0)
    ⊎ ((get_or bytes 0 0 ≡ 48) × IsAsciiDigit (get_or bytes 1 0))

-- that value stands between the places
abbrev pub HoldsValue : List ℕ → ℕ → Member → ℕ → Type 0
HoldsValue line start member end =
    (scalar : Scalar) × (member_data member ≡ data_of scalar)
    × Holds line start (token (token_of scalar) ∷ []) end

-- the name stands between the places, in quotation marks
abbrev pub HoldsName : List ℕ → ℕ → Name → ℕ → Type 0
HoldsName line start name end = Holds line start (token (string (text_of name)) ∷ []) end

-- the text is that name, or none of the names
abbrev pub IsNamed : List ℕ → Option Name → Type 0
IsNamed text (Some name) = text ≡ text_of name
IsNamed text None = (name : Name) → text ≡ text_of name → ⊥

-- the key of a member, of that name, and its colon stand between the places
abbrev pub HoldsKey : List ℕ → ℕ → Option Name → ℕ → Type 0
HoldsKey line start name end =
    (key : List ℕ) × IsNamed key name
    × Holds line start (token (string key) ∷ colon ∷ []) end

-- the entry at the name's place
abbrev pub entry_of : Name → List (Option Member) → Option Data
entry_of name members = option_map member_data (get_or members (place_of name) None)

-- the members after one of that name, if any, was put at its name's place
abbrev pub Puts : List (Option Member) → Option Name → Member → List (Option Member) → Type 0
Puts before None member after = after ≡ before
Puts before (Some name) member after =
    (place_of name < length before) × (after ≡ set before (place_of name) (Some member))

-- the entry of a name is the value if the key is that name, and else what it was
abbrev pub Updates : List ℕ → Data → List (Option Member) → List (Option Member) → Name → Type 0
Updates key value before after name =
    ((key ≡ text_of name) × (entry_of name after ≡ Some value))
    ⊎ ((key ≡ text_of name → ⊥) × (entry_of name after ≡ entry_of name before))

-- a member stands between the places, and the entries are those before with it
pub record AddsMember (line : List ℕ) (start : ℕ) (before after : List (Option Member)) (end : ℕ) :
    Type 0 where
  pub key : List ℕ
  pub scalar : Scalar
  pub holds : Holds line start (token (string key) ∷ colon ∷ token (token_of scalar) ∷ []) end
  pub each : (name : Name) → Updates key (data_of scalar) before after name
