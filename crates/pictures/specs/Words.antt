-- What is said of a call, in few words. A value stands as a JSON text.
use Rattle.std.specs.Prelude.{ℕ, Bool, true, false, ◌||◌, if◌then◌else◌, List, [], ◌∷◌, ◌++◌}
use Rattle.std.specs.Prelude.{Option, Some, None, decimal, length, nat_lt}
use Rattle.tag.specs.declared.actions.Action.{Action}
use Rattle.tag.specs.declared.actions.Action.TheVariants.{Read, Write}
use Rattle.tag.specs.declared.actions.Returned.{Returned}
use Rattle.tag.specs.declared.actions.Returned.TheVariants.{Value, Written}
use Rattle.tag.specs.declared.numbers.OpId.{OpId}
use Rattle.tag.specs.Tags.{Tag}
use Rattle.recorder.specs.declared.part.Call.{Call}
use Rattle.recorder.specs.declared.part.Response.{Response}
use Rattle.sentences.specs.Words.{tag_text, value_text}
use Rattle.explanations.specs.Sentences.{line_at}
use Rattle.explanations.specs.declared.hall_rows.HallRows.{HallRows}
use Rattle.pictures.specs.declared.style.TheConstants.{ANSWER, BLANK, CALL_SIGN, CLIENT_SIGN}
use Rattle.pictures.specs.declared.style.TheConstants.{COLON, DONE}
use Rattle.pictures.specs.declared.style.TheConstants.{FAULT_SIGN, NOT_ANSWERED, PLACE_CLOSES}
use Rattle.pictures.specs.declared.style.TheConstants.{PLACE_OPENS, READS, WRITES}
use Rattle.pictures.specs.declared.words.Signs.{Signs}

-- words that are left out where there is little room
abbrev pub unless : Bool → List ℕ → List ℕ
unless briefly words = if briefly then [] else words

-- the words; or brief ones, where the words have more bytes than the room has letters
abbrev pub fitted : ℕ → List ℕ → List ℕ → List ℕ
fitted room words brief = if nat_lt room (length words) then brief else words

-- what a call of that action does
abbrev pub action_words : Bool → Action → List ℕ
action_words briefly Read = READS.now
action_words briefly (Write value) = unless briefly WRITES.now ++ value_text (Some value)

-- the name and a colon, if there is one
abbrev pub name_words : List ℕ → List ℕ
name_words [] = []
name_words (byte ∷ name) = (byte ∷ name) ++ COLON.now

-- the sign of a call at fault, if it is one
abbrev pub fault_sign : Bool → List ℕ
fault_sign faulty = if faulty then FAULT_SIGN.now else []

-- that, and a call's number after these words
abbrev pub numbered_words : Bool → List ℕ → OpId → List ℕ
numbered_words faulty before op = fault_sign faulty ++ before ++ decimal op.0

-- a client's number and a blank, where it is said
abbrev pub client_sign : Bool → ℕ → List ℕ
client_sign shared client =
    if shared then CLIENT_SIGN.now ++ decimal client ++ BLANK.now else []

-- a place in an order and a blank, if there is one
abbrev pub place_sign : Option ℕ → List ℕ
place_sign None = []
place_sign (Some place) = PLACE_OPENS.now ++ decimal place ++ PLACE_CLOSES.now

-- a call's number, its place in a refused order, its client in a shared column, the name of its
-- key, and what it does
abbrev pub begin_words : Signs → Bool → List ℕ → Call → List ℕ
begin_words signs briefly name call =
    numbered_words signs.faulty CALL_SIGN.now call.op ++ BLANK.now ++ place_sign signs.place
    ++ client_sign signs.shared call.client ++ name_words name
    ++ action_words briefly call.action

-- what a response answers
abbrev pub returned_words : Returned → List ℕ
returned_words Written = DONE.now
returned_words (Value value) = value_text value

-- what that response answers, or that there is none
abbrev pub response_words : Option Response → List ℕ
response_words None = NOT_ANSWERED.now
response_words (Some response) = returned_words response.returned

-- the answer is a write's
abbrev pub is_written_answer : Returned → Bool
is_written_answer Written = true
is_written_answer (Value value) = false

-- the response is a write's
abbrev pub is_written : Option Response → Bool
is_written None = false
is_written (Some response) = is_written_answer response.returned

-- what that response answers, where a call ends
abbrev pub end_words : Bool → Option Response → List ℕ
end_words briefly response =
    unless (briefly || is_written response) ANSWER.now ++ response_words response

-- that tag, if there is one
abbrev pub note_words : Option Tag → List ℕ
note_words None = []
note_words (Some tag) = tag_text tag

-- the line of the hall's row at that place, if there is one
abbrev pub line_words : HallRows → Option ℕ → List ℕ
line_words hall None = []
line_words hall (Some place) = decimal (line_at hall place)
