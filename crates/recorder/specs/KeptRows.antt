-- How a table keeps its rows: a row has the number of its key, and where the text of its value
-- stands among all texts.
use Rattle.std.specs.Prelude.{ℕ, ◌≡◌, ◌≤◌, ◌<◌, ◌*◌, ◌++◌, List, [], Option, Some, None, map}
use Rattle.std.specs.Prelude.{length, get_or, slice_get}
use Rattle.tag.specs.declared.actions.Action.TheVariants.{Read, Write}
use Rattle.tag.specs.declared.actions.Returned.{Returned}
use Rattle.tag.specs.declared.actions.Returned.TheVariants.{Value, Written}
use Rattle.tag.specs.declared.numbers.OpId.{OpId}
use Rattle.tag.specs.Limits.{value_limit}
use Rattle.recorder.specs.declared.row.Row.{Row}
use Rattle.recorder.specs.declared.row.Row.TheVariants.{Invoke, Note, Respond}
use Rattle.recorder.specs.declared.row_table.KeptRow.{KeptRow}
use Rattle.recorder.specs.declared.row_table.KeptRow.TheVariants as kept
use Rattle.recorder.specs.declared.row_table.Span.{Span}
use Rattle.recorder.specs.declared.row_table.RowTable.TheInside.{Inside}
use Rattle.recorder.specs.Records.{AreFirstSeen}
use Rattle.recorder.specs.Shown.{answer_of}
use Rattle.recorder.specs.Tables.{Table, row_limit}
use Rattle.recorder.specs.Texts.{IsValueAt, KeepsValue, text_at}

-- where the text of the row's value stands, if it has one
abbrev pub span_of : KeptRow → Option Span
span_of (kept.Read op client key) = None
span_of (kept.Write op client key span) = Some span
span_of (kept.Note op tag) = None
span_of (kept.Done op) = None
span_of (kept.Absent op) = None
span_of (kept.Answer op span) = Some span

module _ (keys : List (List ℕ)) (texts : List ℕ) where
  -- the row that is kept
  abbrev pub row_of : KeptRow → Row
  row_of (kept.Read op client key) = Invoke op client (get_or keys key []) Read
  row_of (kept.Write op client key span) =
      Invoke op client (get_or keys key []) (Write (text_at texts span))
  row_of (kept.Note op tag) = Note op tag
  row_of (kept.Done op) = Respond op Written
  row_of (kept.Absent op) = Respond op (Value None)
  row_of (kept.Answer op span) = Respond op (Value (Some (text_at texts span)))

  -- its key and its text are there
  abbrev pub IsThere : KeptRow → Type 0
  IsThere (kept.Read op client key) = key < length keys
  IsThere (kept.Write op client key span) = (key < length keys) × IsValueAt texts span
  IsThere (kept.Note op tag) = Unit {0}
  IsThere (kept.Done op) = Unit {0}
  IsThere (kept.Absent op) = Unit {0}
  IsThere (kept.Answer op span) = IsValueAt texts span

-- the row that is kept of an answer, whose text, if any, comes after all others
pub record KeepsAnswer (old new : List ℕ) (op : OpId) (returned : Returned) (row : KeptRow)
    : Type 0 where
  pub more : List ℕ
  pub texts : new ≡ old ++ more
  pub short : length more ≤ value_limit
  pub there : (keys : List (List ℕ)) → IsThere keys new row
  pub shown : (keys : List (List ℕ)) → row_of keys new row ≡ Respond op returned
  pub value : KeepsValue new (span_of row) (answer_of returned)

-- the rows that a table keeps, its keys and its texts
abbrev pub table_within : Inside → Table
table_within t = record {
  rows = map (row_of t.keys t.texts.items) t.rows.items;
  keys = t.keys;
  texts = t.texts.items;
}

-- each row's key and text are there, and there is room for the texts of further rows; the keys are
-- those of the rows
pub record IsKeptTable (t : Inside) : Type 0 where
  pub there : (k : ℕ) (row : KeptRow) → slice_get t.rows.items k ≡ Some row
      → IsThere t.keys t.texts.items row
  pub few : length t.rows.items ≤ row_limit
  pub texts : length t.texts.items ≤ value_limit * length t.rows.items
  pub keys : length t.keys ≤ length t.rows.items
  pub seen : AreFirstSeen (table_within t).rows t.keys
