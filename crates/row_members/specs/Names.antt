-- The names that members of rows have.
use Rattle.std.specs.Prelude.{ℕ, List, codes}
use Rattle.row_members.specs.declared.name.Name.{Name}
use Rattle.row_members.specs.declared.name.Name.TheVariants.{Call, Client, Do, Hall, Key}
use Rattle.row_members.specs.declared.name.Name.TheVariants.{Number, Row, Value, Writer}

-- the name as it stands in a line
abbrev pub text_of : Name → List ℕ
text_of Call = codes "call"
text_of Client = codes "client"
text_of Do = codes "do"
text_of Hall = codes "hall"
text_of Key = codes "key"
text_of Number = codes "number"
text_of Row = codes "row"
text_of Value = codes "value"
text_of Writer = codes "writer"

-- the name's place in the order of the names
abbrev pub place_of : Name → ℕ
place_of Call = 0
place_of Client = 1
place_of Do = 2
place_of Hall = 3
place_of Key = 4
place_of Number = 5
place_of Row = 6
place_of Value = 7
place_of Writer = 8
