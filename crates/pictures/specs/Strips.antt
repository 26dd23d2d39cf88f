-- What stays in sight while a picture scrolls: a strip with the clients' names above, and one with
-- the lines of the history file at the left. Places are those of the picture that they lie upon.
use Rattle.std.specs.Prelude.{ℕ, ◌==◌, ◌+◌, ◌*◌, List, [], ◌∷◌, ◌++◌, decimal, length}
use Rattle.std.specs.Prelude.{if◌then◌else◌}
use Rattle.markup.specs.Markup.{Markup, NamedText, all_tenths_text, element, both, each}
use Rattle.markup.specs.declared.names.AttributeName.TheVariants as name
use Rattle.markup.specs.declared.names.Element.TheVariants as tag
use Rattle.labels.specs.Each.{each_from}
use Rattle.labels.specs.Labels.{label_markup, number_of, words_of}
use Rattle.explanations.specs.Sentences.{line_at}
use Rattle.explanations.specs.declared.hall_rows.HallRows.{HallRows}
use Rattle.scenes.specs.declared.columns.Column.{Column}
use Rattle.scenes.specs.declared.gaps.Gap.{Gap}
use Rattle.scenes.specs.declared.scene.Scene.{Scene}
use Rattle.pictures.specs.declared.sizes.TheConstants.{BOTTOM, COLUMN_LEFT, LINE_LETTERS}
use Rattle.pictures.specs.declared.sizes.TheConstants.{LINE_RIGHT, NAMES_BASE, RIGHT, ROW_TOP}
use Rattle.pictures.specs.declared.sizes.TheConstants.{TEXT_BASE}
use Rattle.pictures.specs.declared.style.TheConstants.{CLIENT, CLIENTS_WORD, CLIENT_WORD, COMMA}
use Rattle.pictures.specs.declared.style.TheConstants.{GAP_CALL, GAP_CALLS}
use Rattle.pictures.specs.declared.style.TheConstants.{GAP_SIGN, HIDDEN, LINE, LINES, LINE_WORD}
use Rattle.pictures.specs.declared.style.TheConstants.{NAMES, OF_CLIENTS, OMITTED}
use Rattle.pictures.specs.Ground.{middle_of}
use Rattle.pictures.specs.Layout.{across, down, room_of, row_of_gap, row_of_place, rows_of}
use Rattle.pictures.specs.Words.{fitted}

-- a strip of that class that is so wide and so high; the picture says itself what it shows
abbrev pub strip_attributes : List ℕ → ℕ → ℕ → List NamedText
strip_attributes class width height =
    words_of name.Class class ∷ words_of name.AriaHidden HIDDEN.now
    ∷ number_of name.Width width ∷ number_of name.Height height
    ∷ words_of name.ViewBox (all_tenths_text (0 ∷ 0 ∷ width * 10 ∷ height * 10 ∷ [])) ∷ []

-- how many calls are left out
abbrev pub gap_words : ℕ → List ℕ
gap_words calls = GAP_SIGN.now ++ decimal calls
    ++ (if calls == 1 then GAP_CALL.now else GAP_CALLS.now)

-- the word before the numbers of these clients
abbrev pub client_word : List ℕ → List ℕ
client_word clients = if length clients == 1 then CLIENT_WORD.now else CLIENTS_WORD.now

-- what stands before the number of that index: before the first the words, before others a comma
abbrev pub word_at : List ℕ → ℕ → List ℕ
word_at words index = if index == 0 then words else COMMA.now

-- the numbers of the clients, the first of that index, each after what stands before it
abbrev pub numbers_from : List ℕ → ℕ → List ℕ → List ℕ
numbers_from words index [] = []
numbers_from words index (client ∷ clients) =
    word_at words index ++ decimal client ++ numbers_from words (index + 1) clients

-- the numbers of the clients, with commas between them, after those words
abbrev pub numbers_after : List ℕ → List ℕ → List ℕ
numbers_after words clients = numbers_from words 0 clients

module _ (scene : Scene) where
  -- what clients are called: by their numbers alone if there is no room for more, or else by how
  -- many they are
  abbrev pub client_words : List ℕ → List ℕ
  client_words clients = fitted (room_of scene) (numbers_after (client_word clients) clients)
      (fitted (room_of scene) (numbers_after [] clients)
      (decimal (length clients) ++ OF_CLIENTS.now))

  -- the name of a column's clients, at that height
  abbrev pub client_name : ℕ → ℕ → Column → Markup
  client_name y index column = label_markup CLIENT.now (middle_of scene index) y (room_of scene)
      (client_words column.clients.items)

  -- the line of the history file at that place, in its row
  abbrev pub line_name : HallRows → ℕ → Markup
  line_name hall place = label_markup LINE.now LINE_RIGHT
      (down TEXT_BASE (row_of_place scene place)) LINE_LETTERS
      (LINE_WORD.now ++ decimal (line_at hall place))

  -- how many calls the gap of that index leaves out, in its row
  abbrev pub gap_name : ℕ → Gap → Markup
  gap_name index gap = label_markup OMITTED.now LINE_RIGHT
      (down TEXT_BASE (row_of_gap scene index gap.place)) LINE_LETTERS (gap_words gap.calls)

  -- the strip of the clients' names
  abbrev pub names_strip : Markup
  names_strip = element tag.Svg
      (strip_attributes NAMES.now (across scene RIGHT (length scene.columns.items)) ROW_TOP)
      (each_from (client_name NAMES_BASE) 0 scene.columns.items)

  -- the strip of the lines, and of how many calls are left out
  abbrev pub lines_strip : HallRows → Markup
  lines_strip hall = element tag.Svg
      (strip_attributes LINES.now COLUMN_LEFT (down BOTTOM (rows_of scene)))
      (both (each (line_name hall) scene.ticks.items) (each_from gap_name 0 scene.gaps.items))
