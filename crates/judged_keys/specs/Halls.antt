-- The history of a key's hall, with the lines of the file on which its rows stand.
use Rattle.std.specs.Prelude.{ℕ, ◌≡◌, List, Some, length, slice_get}
use Rattle.recorder.specs.Halls.{hall_of}
use Rattle.recorder.specs.Histories.{Recorded}
use Rattle.history_file.specs.declared.numbered_format.NumberedHistories.{NumberedHistories}
use Rattle.explanations.specs.declared.hall_rows.HallRows.{HallRows}

-- each hall has its list of lines
abbrev pub HasLinesOfEach : NumberedHistories → Type 0
HasLinesOfEach numbered = length numbered.lines.items ≡ length numbered.histories.halls

-- those are the rows of the key's hall, and the lines on which they stand
pub record IsHallOfKey (numbered : NumberedHistories) (key : List ℕ) (hall : HallRows) : Type 0
  where
    pub number : ℕ
    pub its : number ≡ hall_of (length numbered.histories.halls) key
    pub history : Recorded
    pub recorded : slice_get numbered.histories.halls number ≡ Some history
    pub rows : hall.history.now.rows ≡ history.rows
    pub lines : slice_get numbered.lines.items number ≡ Some hall.lines.now
