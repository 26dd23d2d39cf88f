-- The table of the calls of a picture: a row for each bar.
use Rattle.std.specs.Prelude.{ℕ, Bool, false, List, [], ◌∷◌, ◌++◌, Some, decimal}
use Rattle.markup.specs.Markup.{Markup, text, element, both, each}
use Rattle.markup.specs.declared.names.AttributeName.TheVariants as name
use Rattle.markup.specs.declared.names.Element.TheVariants as tag
use Rattle.labels.specs.Labels.{words_of}
use Rattle.labels.specs.Texts.{text_of}
use Rattle.recorder.specs.declared.part.Call.{Call}
use Rattle.explanations.specs.declared.hall_rows.HallRows.{HallRows}
use Rattle.scenes.specs.declared.scene.Bar.{Bar}
use Rattle.pictures.specs.declared.cells.Content.{Content}
use Rattle.pictures.specs.declared.cells.Content.TheVariants as content
use Rattle.pictures.specs.declared.picture.Picture.{Picture}
use Rattle.pictures.specs.declared.style.TheConstants.{ANSWERED_HEADING, ANSWER_HEADING, CALLS}
use Rattle.pictures.specs.declared.style.TheConstants.{BEGINS_HEADING, CALL_HEADING, CLIENT_HEADING}
use Rattle.pictures.specs.declared.style.TheConstants.{COLUMN, DOES_HEADING, NOTED_HEADING}
use Rattle.pictures.specs.declared.style.TheConstants.{NOTE_HEADING, ROWS, ROW_SCOPE, TABLE_OF}
use Rattle.pictures.specs.declared.style.TheConstants.{TABLE_TITLE}
use Rattle.pictures.specs.Boxes.{box_attributes, named_calls}
use Rattle.pictures.specs.Keys.{said_key}
use Rattle.pictures.specs.Bars.{call_of, class_of, is_faulty, own_key}
use Rattle.pictures.specs.Texts.{if_any}
use Rattle.pictures.specs.Words.{action_words, line_words, name_words, note_words}
use Rattle.pictures.specs.Words.{numbered_words, response_words}

-- a cell with those words
abbrev pub cell : List ℕ → Markup
cell words = element tag.Td [] (text (text_of words))

-- what a cell with that content says
abbrev pub content_words : Content → List ℕ
content_words (content.Number number) = decimal number
content_words (content.Does name action) = name_words name.now ++ action_words false action.now
content_words (content.Answers response) = response_words response.now

-- a heading of that scope
abbrev pub scoped : List ℕ → List ℕ → Markup
scoped scope words = element tag.Th (words_of name.Scope scope ∷ []) (text words)

-- the heading of a column
abbrev pub heading : List ℕ → Markup
heading words = scoped COLUMN.now words

-- the heading of a row
abbrev pub row_heading : List ℕ → Markup
row_heading words = scoped ROW_SCOPE.now (text_of words)

-- the words above the columns: of what a call does, and of where it stands in the history
abbrev pub columns : List (List ℕ)
columns = CALL_HEADING.now ∷ CLIENT_HEADING.now ∷ DOES_HEADING.now ∷ ANSWER_HEADING.now
    ∷ NOTE_HEADING.now ∷ BEGINS_HEADING.now ∷ NOTED_HEADING.now ∷ ANSWERED_HEADING.now ∷ []

-- the row of headings
abbrev pub headings : Markup
headings = element tag.Tr [] (each heading columns)

-- what a call does: its number, its client, its key's name and its action, and what it answers
abbrev pub call_cells : Bool → List ℕ → Call → Markup
call_cells faulty name call = both (row_heading (numbered_words faulty [] call.op))
    (both (cell (decimal call.client))
    (both (cell (name_words name ++ action_words false call.action))
    (cell (response_words call.response))))

-- where it stands in the history: its note, and the lines of its bar's places
abbrev pub line_cells : HallRows → Bar → Call → Markup
line_cells hall bar call = both (cell (note_words call.note))
    (both (cell (line_words hall (Some bar.begins)))
    (both (cell (line_words hall bar.note)) (cell (line_words hall bar.answered))))

-- what is shown of a folded table
abbrev pub summary : Markup
summary = element tag.Summary [] (text TABLE_TITLE.now)

module _ (p : Picture) where
  -- the row of a call on that key, in the class of what it does
  abbrev pub call_row : Bar → Call → List ℕ → Markup
  call_row bar call key = element tag.Tr
      (words_of name.Class (class_of call.action (is_faulty p call.op)) ∷ [])
      (both (call_cells (is_faulty p call.op) (said_key p.keys key) call)
      (line_cells p.hall bar call))

  -- the row of a bar, with the call of its number
  abbrev pub row_markup : Bar → Markup
  row_markup bar = if_any (λ call. if_any (call_row bar call) (own_key p call))
      (call_of p.part.now bar.call)

  -- the table, with the keys of its calls as its caption
  abbrev pub rows_table : Markup
  rows_table = element tag.Table [] (both (named_calls tag.Caption p.keys)
      (both headings (each row_markup p.scene.now.bars.items)))

  -- the table, in a box that has a name
  abbrev pub table_box : Markup
  table_box = element tag.Div (box_attributes ROWS.now TABLE_OF.now p.keys) rows_table

  -- the table, folded
  abbrev pub table_markup : Markup
  table_markup = element tag.Details (words_of name.Class CALLS.now ∷ []) (both summary table_box)
