-- What stands in a bar: what its call does, the tag that it noted, and what it answers.
use Rattle.std.specs.Prelude.{ℕ, Bool, false, true, List, ◌++◌, Option, Some, None}
use Rattle.markup.specs.Markup.{Markup, nothing, both}
use Rattle.labels.specs.Labels.{label_markup}
use Rattle.recorder.specs.declared.part.Call.{Call}
use Rattle.scenes.specs.declared.scene.Bar.{Bar}
use Rattle.scenes.specs.declared.scene.Scene.{Scene}
use Rattle.pictures.specs.declared.sizes.TheConstants.{TEXT_BASE, TEXT_LEFT}
use Rattle.pictures.specs.declared.style.TheConstants.{ANSWERS, DOES, NOTED, NOTES}
use Rattle.pictures.specs.declared.texts.BarText.{BarText}
use Rattle.pictures.specs.declared.texts.BarText.TheVariants as bar_text
use Rattle.pictures.specs.declared.words.Signs.{Signs}
use Rattle.pictures.specs.Layout.{across, column_of, down, is_shared, room_of, row_of_place}
use Rattle.pictures.specs.Marks.{place_in}
use Rattle.pictures.specs.Words.{begin_words, end_words, fitted, note_words, unless}

-- what is made of what there is, if there is any
abbrev pub if_any : {X : Type 0} → (X → Markup) → Option X → Markup
if_any f None = nothing
if_any f (Some x) = f x

-- the class of a text of a bar
abbrev pub text_class : BarText → List ℕ
text_class bar_text.Begin = DOES.now
text_class bar_text.Note = NOTED.now
text_class bar_text.Answer = ANSWERS.now

-- what it says of the bar's call: its number, its place in a refused order, its client in a
-- shared column, the name of its key, and what it does; its tag; or what it answers
abbrev pub text_words : BarText → Signs → Bool → List ℕ → Call → List ℕ
text_words bar_text.Begin signs briefly name call = begin_words signs briefly name call
text_words bar_text.Note signs briefly name call =
    unless briefly NOTES.now ++ note_words call.note
text_words bar_text.Answer signs briefly name call = end_words briefly call.response

-- the same, briefly if there is no room for it
abbrev pub fitted_words : ℕ → BarText → Signs → List ℕ → Call → List ℕ
fitted_words room text signs name call =
    fitted room (text_words text signs false name call) (text_words text signs true name call)

module _ (scene : Scene) where
  -- such a text in a column, in the row of a place
  abbrev pub text_at : BarText → ℕ → Signs → List ℕ → Call → ℕ → Markup
  text_at text column signs name call place = label_markup (text_class text)
      (across scene TEXT_LEFT column) (down TEXT_BASE (row_of_place scene place)) (room_of scene)
      (fitted_words (room_of scene) text signs name call)

  -- the texts of a bar in that column: where its call begins, and where it notes and answers, if it
  -- does
  abbrev pub texts_in : ℕ → Bar → Signs → List ℕ → Call → Markup
  texts_in column bar signs name call =
      both (text_at bar_text.Begin column signs name call bar.begins)
      (both (if_any (text_at bar_text.Note column signs name call) bar.note)
      (if_any (text_at bar_text.Answer column signs name call) bar.answered))

  -- what is said of a bar's call beside what it is
  abbrev pub signs_of : Bool → Option ℕ → Bar → Signs
  signs_of faulty place bar = record {
    faulty = faulty;
    shared = is_shared scene (column_of scene bar.lane);
    place = place;
  }

  -- the texts of a bar, in its lane's column
  abbrev pub texts : Bar → Bool → Option ℕ → List ℕ → Call → Markup
  texts bar faulty place name call =
      texts_in (column_of scene bar.lane) bar (signs_of faulty place bar) name call

  -- the texts of a bar in that column that stand in rows of a strip
  abbrev pub strip_texts_in : ℕ → ℕ → Bar → Signs → List ℕ → Call → Markup
  strip_texts_in strip column bar signs name call =
      both (if_any (text_at bar_text.Begin column signs name call)
      (place_in scene strip (Some bar.begins)))
      (both (if_any (text_at bar_text.Note column signs name call) (place_in scene strip bar.note))
      (if_any (text_at bar_text.Answer column signs name call)
      (place_in scene strip bar.answered)))

  -- the same, in its lane's column
  abbrev pub strip_texts : ℕ → Bar → Bool → Option ℕ → List ℕ → Call → Markup
  strip_texts strip bar faulty place name call = strip_texts_in strip (column_of scene bar.lane) bar
      (signs_of faulty place bar) name call
