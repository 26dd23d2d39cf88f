-- The page of a script: the diagram of the messages of its run, the script and the trace in words,
-- and the pictures of the history that the run records.
use Rattle.std.specs.Prelude.{ℕ, zero, suc, ◌≡◌, ◌+◌, List, [], ◌∷◌, None, decimal, length}
use Rattle.std.specs.List.{enumerate_from}
use Rattle.std.specs.Str.Lines.{lines}
use Rattle.std.specs.Str.Lossy.{utf8_lossy}
use Rattle.recorder.specs.Histories.{Recorded}
use Rattle.markup.specs.Markup.{Markup, NamedText, nothing, text, line_end, element, both, each}
use Rattle.markup.specs.Texts.{of_class, plain}
use Rattle.markup.specs.declared.names.AttributeName.TheVariants as name
use Rattle.markup.specs.declared.names.Element.TheVariants as tag
use Rattle.file_format.specs.Texts.{rows_from}
use Rattle.history_file.specs.NumberedRows.{lines_of}
use Rattle.history_file.specs.declared.numbered_format.NumberedHistories.{NumberedHistories}
use Rattle.script_runs.specs.declared.command.Script.{Script}
use Rattle.traces.specs.Traces.{IsTraceText}
use Rattle.message_scenes.specs.Scenes.{IsRecordedScene}
use Rattle.message_scenes.specs.declared.scene.MessageScene.{MessageScene}
use Rattle.diagrams.specs.Diagrams.{diagram, diagram_legend, diagram_style}
use Rattle.diagrams.specs.Rows.{script_id}
use Rattle.draw_command.specs.Frames.{page_frame}
use Rattle.draw_command.specs.HistoryPictures.{IsContentOfHistory}
use Rattle.draw_command.specs.Pages.{IsFramed, styles_markup, title_words}
use Rattle.draw_command.specs.declared.drawn.Drawn.{Drawn}
use Rattle.trace_command.specs.declared.words.TheConstants as word

-- ---- the styles

-- the styles: those of a page of `abd draw`, that of diagrams, and that of what stands around them
abbrev pub all_styles : Markup
all_styles = both styles_markup (both diagram_style (plain tag.Style word.STYLE.now))

-- ---- the run

-- how many steps the diagram leaves out, if it leaves some out
abbrev pub left_out : ℕ → Markup
left_out zero = nothing
left_out (suc count) = both (text word.LEFT_OUT.now) (text (decimal (suc count)))

-- how many steps the diagram shows, and how many it leaves out
abbrev pub steps_line : MessageScene → Markup
steps_line scene = element tag.P (of_class word.STEPS.now) (both (text word.STEPS_SHOWN.now)
    (both (text (decimal (length scene.rows.items))) (left_out scene.omitted)))

-- what the signs of a diagram mean, and the diagram of the run's messages
abbrev pub messages_markup : MessageScene → Markup
messages_markup scene = both diagram_legend (diagram scene)

-- a line of the trace
abbrev pub told_line : List ℕ → Markup
told_line line = both (text line) line_end

-- the trace, line by line
abbrev pub told_lines : List ℕ → Markup
told_lines trace = each told_line (lines (utf8_lossy trace))

-- the box of a text, which has that name and can have the focus
abbrev pub text_box : List ℕ → List NamedText
text_box label = record { name = name.Role; value = word.REGION.now }
    ∷ record { name = name.AriaLabel; value = label }
    ∷ record { name = name.Tabindex; value = decimal 0 } ∷ []

-- a line of the script and its index, at the place of its number, and the end of the line
abbrev pub script_line : ℕ × List ℕ → Markup
script_line numbered_line = both (element tag.Span
    (record { name = name.Id; value = script_id (numbered_line.0 + 1) } ∷ [])
    (text numbered_line.1)) line_end

-- the script, line by line
abbrev pub script_lines : List ℕ → Markup
script_lines script = each script_line (enumerate_from 0 (lines (utf8_lossy script)))

-- the script, folded away
abbrev pub script_markup : List ℕ → Markup
script_markup script = element tag.Details (of_class word.SCRIPT.now)
    (both (plain tag.Summary word.THE_SCRIPT.now)
    (element tag.Pre (text_box word.THE_SCRIPT.now) (script_lines script)))

-- the trace, folded away
abbrev pub trace_markup : List ℕ → Markup
trace_markup trace = element tag.Details (of_class word.TOLD.now)
    (both (plain tag.Summary word.EACH_STEP.now)
    (element tag.Pre (text_box word.EACH_STEP.now) (told_lines trace)))

-- what is said and shown of the run, and the heading of its history
abbrev pub run_markup : MessageScene → List ℕ → List ℕ → Markup
run_markup scene script trace = both (steps_line scene) (both (messages_markup scene)
    (both (script_markup script) (both (trace_markup trace) (plain tag.H2 word.HISTORY.now))))

-- ---- the page

-- the page of that file around its content
abbrev pub page_markup : List ℕ → Markup → Markup
page_markup file content = page_frame (title_words file word.TITLE.now) all_styles content

-- the page of that scene, script and trace, and of the pictures of that history
abbrev pub IsPageOf : MessageScene → List ℕ → List ℕ → NumberedHistories → Drawn → Markup → Type 0
IsPageOf scene script trace numbered drawn page = IsFramed (page_markup drawn.file.now)
    (IsFramed (both (run_markup scene script trace)) (IsContentOfHistory numbered drawn)) page

-- the history, and the lines of its rows in the file that `abd simulate` writes of it
pub record IsNumbered (history : Recorded) (numbered : NumberedHistories) : Type 0 where
  pub histories : numbered.histories ≡ record { halls = history ∷ []; quorums = None }
  pub lines : numbered.lines.items ≡ lines_of 0 (rows_from 0 (history ∷ [])) ∷ []

-- the page of the script: its text; of a run of it the scene, with at most so many steps, and the
-- history that it records; and the trace, with at most so many lines
pub record IsTracePage (words : List ℕ) (script : Script) (most : ℕ) (drawn : Drawn)
    (page : Markup) : Type 0 where
  pub scene : MessageScene
  pub history : Recorded
  pub run : IsRecordedScene script most scene history
  pub trace : List ℕ
  pub told : IsTraceText script most trace
  pub numbered : NumberedHistories
  pub numbered_is : IsNumbered history numbered
  pub is : IsPageOf scene words trace numbered drawn page
