-- Calls, as a monitor tells them: with their lines in a file of version 1.
use Rattle.std.specs.Prelude.{ℕ, ◌+◌, ◌-◌, ◌^◌, List, [], ◌++◌, Bool, true, false, ◌||◌, cond, min}
use Rattle.std.specs.Prelude.{Option, Some, None, codes, decimal, nat_eq, string_bytes}
use Rattle.sentences.specs.Words.{tag_text, value_text}
use Rattle.record_monitor.specs.declared.told.ToldCall.{ToldCall}
use Rattle.record_monitor.specs.declared.told.ToldNote.{ToldNote}
use Rattle.record_monitor.specs.declared.told.ToldSide.{ToldSide}

-- the line of the row at that place, after the header's, as far as 64 bits hold it
abbrev pub line_of : ℕ → ℕ
line_of place = min (place + 2) (2 ^ 64 - 1)

-- the tag that a call is noted with, and the line of its note
unfoldable pub note_text : Option ToldNote → List ℕ
note_text None = codes ", not noted"
note_text (Some note) =
    codes ", noted " ++ tag_text note.tag ++ codes " at line " ++ decimal (line_of note.place)

-- the line of the answer
unfoldable pub answer_text : Option ℕ → List ℕ
answer_text None = codes ", not answered)\n"
answer_text (Some place) = codes ", answered at line " ++ decimal (line_of place) ++ codes ")\n"

-- what a call does on the key: a write writes the value, a read answers it
unfoldable pub action_text : List ℕ → Option (List ℕ) → Bool → List ℕ
action_text key value true = codes ", writes " ++ value_text value ++ codes " to " ++ key
action_text key value false =
    codes ", reads " ++ key ++ codes " and answers " ++ value_text value

-- the numbers of a call and of its client
unfoldable pub head_text : ToldCall → List ℕ
head_text call =
    codes "  call " ++ decimal call.op.0 ++ codes ", client " ++ decimal call.client

-- the line on which a call began
unfoldable pub begun_text : ℕ → List ℕ
begun_text place = codes " (began at line " ++ decimal (line_of place)

module _ (key : List ℕ) (value : Option (List ℕ)) where
  -- a call on the key, a line: its number, its client, what it does, and the lines of its rows
  unfoldable pub told_text : ToldCall → List ℕ
  told_text call = head_text call ++ action_text key value call.is_write
      ++ begun_text call.begun ++ note_text call.noted ++ answer_text call.answered

  -- the same, unless it was told
  abbrev pub untold_text : Bool → ToldCall → List ℕ
  untold_text told call = cond told [] (told_text call)

-- whether the two are one call
abbrev pub is_same : ToldCall → ToldCall → Bool
is_same a b = nat_eq a.op.0 b.op.0

-- the line of the answer; 0 if there is none
abbrev pub answer_line : Option ℕ → ℕ
answer_line None = 0
answer_line (Some place) = line_of place

-- the earlier call was answered before the later one began
unfoldable pub precedence_text : ToldCall → ToldCall → List ℕ
precedence_text earlier later =
    codes "  call " ++ decimal earlier.op.0
    ++ codes " was answered at line " ++ decimal (answer_line earlier.answered)
    ++ codes ", before call " ++ decimal later.op.0
    ++ codes " began at line " ++ decimal (line_of later.begun)

-- the calls of a side, each once
unfoldable pub side_text : List ℕ → ToldSide → List ℕ
side_text key side =
    let value = Some (string_bytes side.value) in
    told_text key value side.write
    ++ untold_text key value (is_same side.first_ended side.write) side.first_ended
    ++ untold_text key value (is_same side.last_begun side.write
    || is_same side.last_begun side.first_ended) side.last_begun
