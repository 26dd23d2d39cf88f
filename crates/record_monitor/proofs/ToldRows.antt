-- What is told stays so with a row more.
use Rattle.std.proofs.Common.{ℕ, ◌≡◌, List, [], ◌∷◌, ◌++◌, Option, Some, None, IfSome, box_value, length, option_map, sym, ◌∙◌, subst}
use Rattle.std.proofs.lemmas.List.Elements.{All-weaker}
use Rattle.std.specs.BTreeMap.{BTreeMap}
use Rattle.std.specs.List.{slice_get}
use Rattle.tag.specs.declared.actions.Action.{Action}
use Rattle.tag.specs.declared.actions.Returned.TheVariants.{Value}
use Rattle.tag.proofs.Lists.{slice_get-push_left, slice_get-push_last}
use Rattle.recorder.specs.declared.row.Row.{Row}
use Rattle.recorder.specs.declared.row.Row.TheVariants.{Invoke, Note, Respond}
use Rattle.recorder.specs.States.{is_write}
use Rattle.record_monitor.specs.declared.key_calls.KeyCalls.{KeyCalls}
use Rattle.record_monitor.specs.declared.key_calls.ReadNote.{ReadNote}
use Rattle.record_monitor.specs.declared.told.Told.{Told}
use Rattle.record_monitor.specs.declared.told.Told.TheVariants as told
use Rattle.record_monitor.specs.declared.placed.Placed.{Placed}
use Rattle.record_monitor.specs.declared.told.ToldCall.{ToldCall}
use Rattle.record_monitor.specs.declared.told.ToldSide.{ToldSide}
use Rattle.record_monitor.specs.declared.watched.Watched.{Watched}
use Rattle.record_monitor.specs.Followed.{AreTold, KeepsTold, told_of}
use Rattle.record_monitor.specs.KeyCalls.{AreNotes, AreToldAt, KnowsCalls}
use Rattle.record_monitor.specs.Told.{AnswersWith, HasAnswerAt, HasNoteAt, IsBareCall, IsTold, IsToldCall, IsToldSide}

if_weaker : {X : Type 0} (P Q : X → Type 0) (o : Option X) → ((x : X) → P x → Q x) → IfSome o P → IfSome o Q
if_weaker P Q None f h = tt
if_weaker P Q (Some x) f h = f x h

if_none : {X : Type 0} (P : X → Type 0) (o : Option X) → o ≡ None → IfSome o P
if_none P o e = subst (λ x. IfSome x P) (sym e) tt

-- a call is told as it began
pub told_begun : (rows : List Row) (key : List ℕ) (call : ToldCall) (action : Action) → IsBareCall call (is_write action) call.begun
    → slice_get rows call.begun ≡ Some (Invoke call.op call.client key action) → IsToldCall rows key call
told_begun rows key call action b at = record {
  action = action;
  begins = at;
  kind = b.kind_is;
  noted = if_none (HasNoteAt rows call.op) call.noted b.noted;
  answered = if_none (HasAnswerAt rows call.op) call.answered b.pending;
}

-- so it is of the call that the last row begins
pub told_now : (rows : List Row) (key : List ℕ) (call : ToldCall) (action : Action) (place : ℕ)
    → IsBareCall call (is_write action) place → length rows ≡ place
    → IsToldCall (rows ++ Invoke call.op call.client key action ∷ []) key call
told_now rows key call action place b e =
    let row : Row = Invoke call.op call.client key action in
    record {
      action = action;
      begins = subst (λ (p : ℕ). slice_get (rows ++ row ∷ []) p ≡ Some row) (e ∙ sym b.at) (slice_get-push_last rows row);
      kind = b.kind_is;
      noted = if_none (HasNoteAt (rows ++ row ∷ []) call.op) call.noted b.noted;
      answered = if_none (HasAnswerAt (rows ++ row ∷ []) call.op) call.answered b.pending;
    }

module _ (rows : List Row) (row : Row) where
  abbrev after : List Row
  after = rows ++ row ∷ []

  answers_on : (read : ToldCall) (value : Option (List ℕ)) → AnswersWith rows read value → AnswersWith after read value
  answers_on read value a = (a.0, a.1, slice_get-push_left rows row a.0 (Respond read.op (Value value)) a.2)

  module _ (key : List ℕ) where
    pub told_on : (call : ToldCall) → IsToldCall rows key call → IsToldCall after key call
    told_on call t = record {
      action = t.action;
      begins = slice_get-push_left rows row call.begun (Invoke call.op call.client key t.action) t.begins;
      kind = t.kind;
      noted = if_weaker (HasNoteAt rows call.op) (HasNoteAt after call.op) call.noted
          (λ n at. slice_get-push_left rows row n.place (Note call.op n.tag) at) t.noted;
      answered = if_weaker (HasAnswerAt rows call.op) (HasAnswerAt after call.op) call.answered
          (λ place a. (a.0, slice_get-push_left rows row place (Respond call.op a.0) a.1)) t.answered;
    }

    placed_on : (map : Placed) → AreToldAt rows key map → AreToldAt after key map
    placed_on map t place call at = let w = t place call at in (told_on call w.0, w.1)

    notes_on : (notes : BTreeMap ℕ ReadNote) → AreNotes rows notes → AreNotes after notes
    notes_on notes t place noted at = slice_get-push_left rows row noted.note.place (Note noted.op noted.note.tag) (t place noted at)

    knows_on : (calls : KeyCalls) → KnowsCalls rows key calls → KnowsCalls after key calls
    knows_on calls k = record {
      writes = placed_on calls.writes k.writes;
      notes = notes_on calls.notes k.notes;
      answered = All-weaker (IsToldCall rows key) (IsToldCall after key) told_on calls.answered.items k.answered;
      first = if_weaker (λ shown. IsToldCall rows key shown.call) (λ shown. IsToldCall after key shown.call) calls.first
          (λ shown t. told_on shown.call t) k.first;
    }

    side_on : (side : ToldSide) → IsToldSide rows key side → IsToldSide after key side
    side_on side s = record {
      write = told_on side.write s.write;
      first_ended = told_on side.first_ended s.first_ended;
      last_begun = told_on side.last_begun s.last_begun;
    }

    is_told_on : (it : Told) → IsTold rows key it → IsTold after key it
    is_told_on (told.NoWrite read value) t = (told_on read t.0, answers_on read _ t.1)
    is_told_on (told.LateNothing read earlier value) t = record {
      late = told_on read t.late;
      first = told_on earlier t.first;
      precedes = t.precedes;
    }
    is_told_on (told.Opposed one other) t = record {
      first = side_on one t.first;
      second = side_on other t.second;
      before = t.before;
      after = t.after;
    }
    is_told_on (told.AllOverwritten read value first second) t = (told_on read t.0, answers_on read _ t.1)

    pub are_told_on : (watched : Watched) → AreTold rows key watched → AreTold after key watched
    are_told_on watched t = record {
      calls = knows_on watched.calls t.calls;
      told = if_weaker (IsTold rows key) (IsTold after key) (told_of watched) (λ it is. is_told_on it is) t.told;
    }

-- a step that changes nothing of it leaves it told
pub told_kept : (rows : List Row) (key : List ℕ) (old new : Watched) → KeepsTold old new → AreTold rows key old → AreTold rows key new
told_kept rows key old new k t = record {
  calls = subst (KnowsCalls rows key) (sym k.calls) t.calls;
  told = subst (λ o. IfSome (option_map box_value o) (IsTold rows key)) (sym k.told) t.told;
}
