-- What the answer of a read makes of a key.
use Rattle.std.specs.Prelude.{ℕ, ◌≡◌, Bool, true, false, List, Option, Some, None}
use Rattle.std.specs.Prelude.{IsSome}
use Rattle.tag.specs.declared.numbers.OpId.{OpId}
use Rattle.recorder.specs.declared.row.Row.{Row}
use Rattle.recorder.specs.Orders.{IsLinearizable}
use Rattle.monitored_key.specs.declared.judged.Judged.TheVariants as judged
use Rattle.record_monitor.specs.declared.report.Finding.{Finding}
use Rattle.record_monitor.specs.declared.report.Finding.TheVariants.{Refused, Undecided}
use Rattle.record_monitor.specs.declared.report.Finding.TheVariants.{EndedAfterAll}
use Rattle.record_monitor.specs.declared.watched.Watched.{Watched}
use Rattle.record_monitor.specs.Followed.{AreTold, FollowsKey, GoesOn}
use Rattle.record_monitor.specs.Judgements.{WasJudged, WasUndecided}

-- an undecided read is found if it is the first of the key
abbrev pub first_doubt : Bool → OpId → ℕ → ℕ → Option Finding
first_doubt false op one two = Some (Undecided op one two)
first_doubt true op one two = None

module _ (most : ℕ) (rows : List Row) (place : ℕ) (key gone : List ℕ) (old new : Watched) where
  -- what was found of the key is so, and the rest goes on; nothing was found if the read passes, or
  -- isn't the first that is undecided
  abbrev pub HasEnded : Option Finding → Type 0
  HasEnded None = FollowsKey rows key gone new × GoesOn old new
  HasEnded (Some (Undecided op one two)) = FollowsKey rows key gone new × IsSome new.state
      × (new.is_doubtful ≡ true) × WasUndecided most rows key place op one two
  HasEnded (Some (Refused refusal)) = (new.state ≡ None) × (new.is_doubtful ≡ old.is_doubtful)
      × AreTold rows key new × (was : WasJudged most rows key place (judged.Refused refusal))
      × (old.is_doubtful ≡ false → IsLinearizable was.before)
  HasEnded (Some (EndedAfterAll op)) = ⊥
