-- The JSON value that a line is, and its members.
use Rattle.std.specs.Prelude.{◌≡◌, ℕ, List, Option, Some, None, IsUtf8, get_or, option_map}
use Rattle.std.specs.Prelude.{unwrap_or}
use Rattle.serde_json.specs.Data.{Data, null, number, string, unsigned}
use Rattle.serde_json.specs.Find.{get}
use Rattle.serde_json.specs.Read.{read}
use Rattle.row_members.specs.declared.member.Member.{Member}
use Rattle.row_members.specs.declared.member.Member.TheVariants as member
use Rattle.row_members.specs.declared.name.Name.{Name}
use Rattle.row_members.specs.Names.{text_of, place_of}

-- the line is one JSON text of that value
abbrev pub IsJson : List ℕ → Data → Type 0
IsJson line d = IsUtf8 line × (read line ≡ Some d)

-- the value of a line that is a JSON text
abbrev pub value_of : List ℕ → Data
value_of line = unwrap_or (read line) null

-- the line is a JSON text
abbrev pub HasValue : List ℕ → Type 0
HasValue line = IsJson line (value_of line)

-- the value that a member is
abbrev pub member_data : Member → Data
member_data member.Null = null
member_data (member.Number n) = number (unsigned n)
member_data (member.Text text start) = string text.now

-- the line is an object, and the entry at each name's place is its member of that name
pub record HasMembers (line : List ℕ) (members : List (Option Member)) : Type 0 where
  pub json : HasValue line
  pub each : (name : Name)
      → option_map member_data (get_or members (place_of name) None)
      ≡ get (text_of name) (value_of line)
