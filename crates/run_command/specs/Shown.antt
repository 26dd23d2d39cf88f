-- The text that a run writes.
use Rattle.std.specs.Prelude.{ℕ, ◌≡◌, List, Some, slice_get}
use Rattle.file_format.specs.Texts.{histories_text, history_text}
use Rattle.recorder.specs.Halls.{RecordedHalls}
use Rattle.recorder.specs.Histories.{Recorded}
use Rattle.command_line.specs.declared.asked.Shown.{Shown}
use Rattle.command_line.specs.declared.asked.Shown.TheVariants as shown

-- the history of the hall that is shown, or those of all halls with the quorums, by hall
abbrev pub IsShownText : RecordedHalls → Shown → List ℕ → Type 0
IsShownText histories (shown.Hall hall) text = (history : Recorded)
    × (slice_get histories.halls hall ≡ Some history) × (text ≡ history_text history.rows)
IsShownText histories shown.All text = text ≡ histories_text histories
