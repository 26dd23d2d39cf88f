-- What a row of a file does to the calls of its key.
use Rattle.std.specs.Prelude.{ℕ, ◌≡◌, ◌<◌, ◌++◌, List, [], ◌∷◌, Option, Some, None}
use Rattle.std.specs.Prelude.{length, slice_get, Contains}
use Rattle.tag.specs.declared.actions.Action.{Action}
use Rattle.tag.specs.declared.actions.Action.TheVariants.{Read}
use Rattle.tag.specs.declared.actions.Returned.{Returned}
use Rattle.tag.specs.declared.actions.Returned.TheVariants.{Value, Written}
use Rattle.tag.specs.declared.numbers.OpId.{OpId}
use Rattle.tag.specs.Tags.{Tag}
use Rattle.recorder.specs.declared.row.Row.{Row}
use Rattle.recorder.specs.declared.row.Row.TheVariants.{Invoke, Note, Respond}
use Rattle.recorder.specs.declared.part.Call.{Call}
use Rattle.recorder.specs.Sound.{IsWrite}
use Rattle.value_order.specs.Tables.{ReadsBy}
use Rattle.value_order.specs.Writers.{AnswersValue, AnswersNothing}
use Rattle.kept_families.specs.Continued.{AreOpenIn}
use Rattle.kept_families.specs.SoundTables.{AreAllRead}
use Rattle.key_monitor.specs.Follows.{KeyState, Follows, FollowsKept}
use Rattle.key_monitor.specs.Judged.{AreJudged, BeginsCall, AnswersCall, LeavesOut}
use Rattle.growing_parts.specs.Nothing.{BeginsFirst}
use Rattle.growing_parts.specs.PartsWithout.{IsPartWithout, StandsBy}

-- the call was answered with that: a write that it is done, a read with a value or nothing
abbrev pub IsAnsweredWith : Call → Returned → Type 0
IsAnsweredWith call Written = IsWrite call
IsAnsweredWith call (Value None) = AnswersNothing call
IsAnsweredWith call (Value (Some value)) = AnswersValue call value

-- a table by which all are read before says so of the calls after, up to the row
abbrev pub KeepsAllRead : List Call → List Call → ℕ → Type 0
KeepsAllRead before after by = (source : ℕ → Option ℕ) → AreJudged before source by
    → AreAllRead before (ReadsBy before source) → AreAllRead after (ReadsBy after source)

module _ (rows : List Row) (key gone : List ℕ) (before : List Call) where
  -- the next row begins that call on the key: the part has one call more
  pub record HasBegunCall (op : OpId) (client : ℕ) (action : Action) : Type 0 where
    pub after : List Call
    pub call : Call
    pub part : IsPartWithout (rows ++ Invoke op client key action ∷ []) key gone after
    pub number : call.op ≡ op
    pub whose : call.client ≡ client
    pub asks : call.action ≡ action
    pub at : call.invoked ≡ length rows
    pub begins : (by : ℕ) → StandsBy before by → by < length rows
        → BeginsCall by (length rows) before after call
    pub opens : (by : ℕ) → StandsBy before by → by < length rows → AreOpenIn by before after
    pub first : before ≡ [] → BeginsFirst (length rows) after call

  -- the next row answers that call on the key, which was one of the part
  pub record HasAnsweredCall (op : OpId) (client : ℕ) (action : Action) (returned : Returned) :
      Type 0 where
    pub after : List Call
    pub was : Call
    pub call : Call
    pub part : IsPartWithout (rows ++ Respond op returned ∷ []) key gone after
    pub there : Contains before was
    pub same : was.op ≡ call.op
    pub number : call.op ≡ op
    pub whose : call.client ≡ client
    pub asked : was.action ≡ action
    pub asks : call.action ≡ action
    pub begun : (place : ℕ) → slice_get rows place ≡ Some (Invoke op client key action)
        → call.invoked ≡ place
    pub responds : call.response ≡ Some (record { place = length rows; returned = returned })
    pub fits : IsAnsweredWith call returned
    pub answers : (by : ℕ) → StandsBy before by → by < length rows
        → AnswersCall by (length rows) before after call
    pub opens : (by : ℕ) → StandsBy before by → by < length rows → AreOpenIn by before after

  -- the next row is a note: what follows the part before it follows the part after it
  pub record HasNotedCall (op : OpId) (tag : Tag) : Type 0 where
    pub after : List Call
    pub part : IsPartWithout (rows ++ Note op tag ∷ []) key gone after
    pub follows : (source : ℕ → Option ℕ) (by : ℕ) (state : KeyState)
        → Follows before source by state → Follows after source by state
    pub kept : (source : ℕ → Option ℕ) (by : ℕ) (state : KeyState)
        → FollowsKept before source by state → FollowsKept after source by state
    pub all_read : (by : ℕ) → KeepsAllRead before after by

  -- a pending read of the key is given up
  pub record HasGivenUpRead (op : OpId) (client : ℕ) : Type 0 where
    pub after : List Call
    pub read : Call
    pub part : IsPartWithout rows key (op.0 ∷ gone) after
    pub there : Contains before read
    pub number : read.op ≡ op
    pub begun : (place : ℕ) → slice_get rows place ≡ Some (Invoke op client key Read)
        → read.invoked ≡ place
    pub leaves : (by : ℕ) → StandsBy before by → LeavesOut by before after read
    pub all_read : (by : ℕ) → KeepsAllRead before after by
