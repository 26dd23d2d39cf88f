-- What a report says.
use Rattle.std.specs.Prelude.{ℕ, ◌≡◌, ◌<◌, ◌+◌, List, Option, Some, slice_get, take}
use Rattle.tag.specs.declared.actions.Action.TheVariants.{Read}
use Rattle.tag.specs.declared.actions.Returned.{Returned}
use Rattle.tag.specs.declared.actions.Returned.TheVariants.{Value}
use Rattle.tag.specs.declared.numbers.OpId.{OpId}
use Rattle.recorder.specs.declared.part.Call.{Call}
use Rattle.recorder.specs.declared.row.Row.{Row}
use Rattle.recorder.specs.declared.row.Row.TheVariants.{Invoke, Respond}
use Rattle.recorder.specs.Orders.{IsLinearizable}
use Rattle.key_monitor.specs.Follows.{FollowsKept, KeyState}
use Rattle.monitored_key.specs.declared.judged.Judged.{Judged}
use Rattle.monitored_key.specs.declared.judged.Judged.TheVariants as judged
use Rattle.monitored_key.specs.Verdicts.{IsVerdict}
use Rattle.growing_parts.specs.PartsWithout.{IsPartWithout}
use Rattle.record_monitor.specs.declared.report.Finding.{Finding}
use Rattle.record_monitor.specs.declared.report.Finding.TheVariants.{Refused, Undecided}
use Rattle.record_monitor.specs.declared.report.Finding.TheVariants.{EndedAfterAll}
use Rattle.record_monitor.specs.Waiting.{AreGivenUp}

-- refused calls have no order
abbrev pub HasMeaning : List Call → Judged → Type 0
HasMeaning part (judged.Refused refusal) = IsLinearizable part → ⊥
HasMeaning part judged = Unit {0}

module _ (most : ℕ) (rows : List Row) (key : List ℕ) (place : ℕ) where
  -- the row there answers a read of the key, which is judged so by what was known of the rows
  -- before it
  pub record WasJudged (judged : Judged) : Type 0 where
    pub op : OpId
    pub client : ℕ
    pub begin : ℕ
    pub value : Option (List ℕ)
    pub begins : slice_get rows begin ≡ Some (Invoke op client key Read)
    pub answers : slice_get rows place ≡ Some (Respond op (Value value))
    pub gone : List ℕ
    pub given_up : AreGivenUp most (take place rows) gone
    pub before : List Call
    pub was : IsPartWithout (take place rows) key gone before
    pub after : List Call
    pub is : IsPartWithout (take (place + 1) rows) key gone after
    pub source : ℕ → Option ℕ
    pub row : ℕ
    pub state : KeyState
    pub follows : FollowsKept before source row state
    pub verdict : IsVerdict state begin value judged
    pub means : HasMeaning after judged

  -- the row there answers a read of the key that was given up
  pub record HasEndedAfterAll (op : OpId) : Type 0 where
    pub client : ℕ
    pub begin : ℕ
    pub returned : Returned
    pub begins : slice_get rows begin ≡ Some (Invoke op client key Read)
    pub answers : slice_get rows place ≡ Some (Respond op returned)
    pub late : begin + most < place

  -- the row there answers that read, which may have read either of the two writes
  abbrev pub WasUndecided : OpId → ℕ → ℕ → Type 0
  WasUndecided op one two = (was : WasJudged (judged.Undecided one two)) × (was.op ≡ op)

  -- what was found is so
  abbrev pub WasFound : Finding → Type 0
  WasFound (Refused refusal) = WasJudged (judged.Refused refusal)
  WasFound (Undecided op one two) = WasUndecided op one two
  WasFound (EndedAfterAll op) = HasEndedAfterAll op
