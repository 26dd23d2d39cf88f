-- Calls that a report tells of, and what they show.
use Rattle.std.specs.Prelude.{ℕ, ◌≡◌, ◌<◌, Bool, List, Option, Some, None, IfSome, slice_get}
use Rattle.std.specs.String.{string_bytes}
use Rattle.tag.specs.declared.actions.Action.{Action}
use Rattle.tag.specs.declared.actions.Returned.{Returned}
use Rattle.tag.specs.declared.actions.Returned.TheVariants.{Value}
use Rattle.tag.specs.declared.numbers.OpId.{OpId}
use Rattle.recorder.specs.declared.row.Row.{Row}
use Rattle.recorder.specs.declared.row.Row.TheVariants.{Invoke, Note, Respond}
use Rattle.recorder.specs.States.{is_write}
use Rattle.record_monitor.specs.declared.told.Told.{Told}
use Rattle.record_monitor.specs.declared.told.Told.TheVariants as told
use Rattle.record_monitor.specs.declared.told.ToldCall.{ToldCall}
use Rattle.record_monitor.specs.declared.told.ToldNote.{ToldNote}
use Rattle.record_monitor.specs.declared.told.ToldSide.{ToldSide}

-- one call was answered before the other began
abbrev pub ToldPrecedes : ToldCall → ToldCall → Type 0
ToldPrecedes earlier later = (place : ℕ) × (earlier.answered ≡ Some place) × (place < later.begun)

-- the call begins there, and has neither a note nor an answer
pub record IsBareCall (call : ToldCall) (kind : Bool) (place : ℕ) : Type 0 where
  pub at : call.begun ≡ place
  pub kind_is : call.is_write ≡ kind
  pub noted : call.noted ≡ None
  pub pending : call.answered ≡ None

-- the call with its answer, and perhaps with a note
pub record EndedAs (was : ToldCall) (place : ℕ) (call : ToldCall) : Type 0 where
  pub number : call.op ≡ was.op
  pub whose : call.client ≡ was.client
  pub kind : call.is_write ≡ was.is_write
  pub at : call.begun ≡ was.begun
  pub end : call.answered ≡ Some place

-- the rows have that note of the call
abbrev pub HasNoteAt : List Row → OpId → ToldNote → Type 0
HasNoteAt rows op note = slice_get rows note.place ≡ Some (Note op note.tag)

-- the rows answer the call at that place
abbrev pub HasAnswerAt : List Row → OpId → ℕ → Type 0
HasAnswerAt rows op place =
    (returned : Returned) × (slice_get rows place ≡ Some (Respond op returned))

-- the read is answered with that value, or that there is none
abbrev pub AnswersWith : List Row → ToldCall → Option (List ℕ) → Type 0
AnswersWith rows read value = (place : ℕ) × (read.answered ≡ Some place)
    × (slice_get rows place ≡ Some (Respond read.op (Value value)))

-- it is answered with the text
abbrev pub AnswersText : List Row → ToldCall → List ℕ → Type 0
AnswersText rows read text = AnswersWith rows read (Some text)

module _ (rows : List Row) (key : List ℕ) where
  -- the rows begin the call on the key where it says, and note and answer it so
  pub record IsToldCall (call : ToldCall) : Type 0 where
    pub action : Action
    pub begins : slice_get rows call.begun ≡ Some (Invoke call.op call.client key action)
    pub kind : call.is_write ≡ is_write action
    pub noted : IfSome call.noted (HasNoteAt rows call.op)
    pub answered : IfSome call.answered (HasAnswerAt rows call.op)

  -- so it is of the calls of a family
  pub record IsToldSide (side : ToldSide) : Type 0 where
    pub write : IsToldCall side.write
    pub first_ended : IsToldCall side.first_ended
    pub last_begun : IsToldCall side.last_begun

  -- each of the two families has a call that precedes one of the other
  pub record AreOpposed (one other : ToldSide) : Type 0 where
    pub first : IsToldSide one
    pub second : IsToldSide other
    pub before : ToldPrecedes one.first_ended other.last_begun
    pub after : ToldPrecedes other.first_ended one.last_begun

  -- the earlier call was answered before the read began
  pub record IsLate (read earlier : ToldCall) : Type 0 where
    pub late : IsToldCall read
    pub first : IsToldCall earlier
    pub precedes : ToldPrecedes earlier read

  -- what is told is so
  abbrev pub IsTold : Told → Type 0
  IsTold (told.NoWrite read value) = IsToldCall read × AnswersText rows read (string_bytes value)
  IsTold (told.LateNothing read earlier value) = IsLate read earlier
  IsTold (told.Opposed one other) = AreOpposed one other
  IsTold (told.AllOverwritten read value first second) =
      IsToldCall read × AnswersText rows read (string_bytes value)
