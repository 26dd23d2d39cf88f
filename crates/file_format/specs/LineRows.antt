-- The rows that lines say.
use Rattle.std.specs.Prelude.{ℕ, ◌≡◌, ◌≤◌, List, Option, Some, None, length, true}
use Rattle.tag.specs.declared.actions.Action.{Action}
use Rattle.tag.specs.declared.actions.Action.TheVariants.{Read, Write}
use Rattle.tag.specs.declared.actions.Returned.{Returned}
use Rattle.tag.specs.declared.actions.Returned.TheVariants.{Value, Written}
use Rattle.tag.specs.Limits.{key_limit}
use Rattle.tag.specs.Names.{is_key, is_value}
use Rattle.recorder.specs.declared.row.Row.{Row}
use Rattle.recorder.specs.declared.row.Row.TheVariants.{Invoke, Note, Respond}
use Rattle.file_format.specs.declared.line_texts.LineText.{LineText}
use Rattle.file_format.specs.declared.line_row.RowKind.{RowKind}
use Rattle.file_format.specs.declared.line_row.RowKind.TheVariants as kind
use Rattle.file_format.specs.declared.line_row.LineRow.TheInside.{Inside}

-- a write of that text, or a read
abbrev pub action_said : Option LineText → Action
action_said None = Read
action_said (Some value) = Write value.text.now

-- the answer of a write, or of a read that finds that text or nothing
abbrev pub returned_said : Option (Option LineText) → Returned
returned_said None = Written
returned_said (Some None) = Value None
returned_said (Some (Some value)) = Value (Some value.text.now)

-- the text is a value
abbrev pub HaveValue : Option (Option LineText) → Type 0
HaveValue (Some (Some value)) = is_value value.text.now ≡ true
HaveValue answered = Unit {0}

-- the row of that kind with that key and value, as far as it has them
abbrev pub row_with : RowKind → List ℕ → List ℕ → Row
row_with (kind.Read op client) key value = Invoke op client key Read
row_with (kind.Write op client) key value = Invoke op client key (Write value)
row_with (kind.Note op tag) key value = Note op tag
row_with (kind.Done op) key value = Respond op Written
row_with (kind.Absent op) key value = Respond op (Value None)
row_with (kind.Answer op) key value = Respond op (Value (Some value))

-- where a row of that kind has a key, the text is one
abbrev pub HasKey : RowKind → List ℕ → Type 0
HasKey (kind.Read op client) key = is_key key ≡ true
HasKey (kind.Write op client) key = is_key key ≡ true
HasKey other key = Unit {0}

-- the texts are those of a row of that kind
pub record AreLawful (row : RowKind) (first second : List ℕ) : Type 0 where
  pub key : HasKey row first
  pub short : length first ≤ key_limit
  pub value : is_value second ≡ true

-- the row with the texts that stand in the line
abbrev pub row_there : Inside → Row
row_there r = row_with r.kind r.texts.key r.texts.value

-- the texts that stand there are those of such a row
abbrev pub IsRowThere : Inside → Type 0
IsRowThere r = AreLawful r.kind r.texts.key r.texts.value
