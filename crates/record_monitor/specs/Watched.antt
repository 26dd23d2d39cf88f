-- What is known of the keys of a record.
use Rattle.std.specs.Prelude.{ℕ, ◌≡◌, ◌≤◌, ◌⊎◌, Bool, true, false, List, Some}
use Rattle.std.specs.Prelude.{MatchOption, length, slice_get, take, Contains}
use Rattle.tag.specs.declared.numbers.OpId.{OpId}
use Rattle.recorder.specs.declared.part.Call.{Call}
use Rattle.recorder.specs.declared.row.Row.{Row}
use Rattle.recorder.specs.Histories.{HasResponse}
use Rattle.recorder.specs.Orders.{IsLinearizable}
use Rattle.recorder.specs.Records.{AreFirstSeen}
use Rattle.monitored_key.specs.declared.judged.Judged.TheVariants as judged
use Rattle.growing_parts.specs.PartsWithout.{IsPartWithout}
use Rattle.monitored_key.specs.declared.judged.Refusal.{Refusal}
use Rattle.record_monitor.specs.declared.report.Finding.TheVariants.{Refused, Undecided}
use Rattle.record_monitor.specs.declared.report.Finding.TheVariants.{EndedAfterAll}
use Rattle.record_monitor.specs.declared.report.Report.{Report}
use Rattle.record_monitor.specs.declared.report.Finding.{Finding}
use Rattle.record_monitor.specs.declared.watched.Watched.{Watched}
use Rattle.record_monitor.specs.declared.watched_keys.WatchedKeys.{WatchedKeys}
use Rattle.record_monitor.specs.Followed.{AreTold, IsFollowed}
use Rattle.record_monitor.specs.Judgements.{WasFound, WasJudged}
use Rattle.record_monitor.specs.Waiting.{AreGivenUp}

-- the key has that number: its place among the keys that were seen, or the place after them
abbrev pub IsNumberOf : List (List ℕ) → List ℕ → ℕ → Type 0
IsNumberOf keys key number = (slice_get keys number ≡ Some key)
    ⊎ ((Contains keys key → ⊥) × (number ≡ length keys))

-- a report says that of the key of that number
abbrev pub HasReport : List Report → ℕ → ℕ → Finding → Type 0
HasReport reports place number finding =
    Contains reports (record { place = place; key = number; finding = finding })

-- the key is reported as refused; until then its calls had an order, if it had no doubt
pub record WasRefused (most : ℕ) (rows : List Row) (key : List ℕ) (number : ℕ)
    (is_doubtful : Bool) (reports : List Report) : Type 0 where
  pub place : ℕ
  pub refusal : Refusal
  pub reported : HasReport reports place number (Refused refusal)
  pub judged : WasJudged most rows key place (judged.Refused refusal)
  pub ordered : is_doubtful ≡ false → IsLinearizable judged.before

-- the calls of the key by the rows before that place have an order, without the reads that were
-- given up by then
pub record HadOrder (most : ℕ) (rows : List Row) (key : List ℕ) (place : ℕ) : Type 0 where
  pub within : place ≤ length rows
  pub gone : List ℕ
  pub given_up : AreGivenUp most (take place rows) gone
  pub before : List Call
  pub was : IsPartWithout (take place rows) key gone before
  pub ordered : IsLinearizable before

-- so it is before each refusal of the key of that number that is reported
abbrev pub HadOrders : ℕ → List Row → List ℕ → ℕ → List Report → Type 0
HadOrders most rows key number reports = (place : ℕ) (refusal : Refusal)
    → HasReport reports place number (Refused refusal) → HadOrder most rows key place

-- a doubt of the key is reported
abbrev pub WasDoubted : List Report → ℕ → Type 0
WasDoubted reports number =
    (place : ℕ) × (op : OpId) × (one : ℕ) × (two : ℕ)
    × HasReport reports place number (Undecided op one two)

-- it is reported that the read was answered though it was given up
abbrev pub WasEnded : List Report → OpId → Type 0
WasEnded reports op = (place : ℕ) × (number : ℕ) × HasReport reports place number (EndedAfterAll op)

-- a report is of a key that was seen, and true
pub record IsTrueReport (most : ℕ) (rows : List Row) (keys : List (List ℕ)) (report : Report) :
    Type 0 where
  pub key : List ℕ
  pub seen : slice_get keys report.key ≡ Some key
  pub found : WasFound most rows key report.place report.finding

module _ (most : ℕ) (rows : List Row) (gone : List ℕ) where
  -- the key is refused and that is reported, or it is followed; its doubt is reported; without one
  -- its calls had an order until it was refused; and what is told of its calls is so
  pub record IsWatched (reports : List Report) (number : ℕ) (key : List ℕ) (watched : Watched) :
      Type 0 where
    pub state : MatchOption watched.state
        (WasRefused most rows key number watched.is_doubtful reports)
        (IsFollowed rows key gone watched.is_doubtful)
    pub doubt : watched.is_doubtful ≡ true → WasDoubted reports number
    pub ordered : watched.is_doubtful ≡ false → HadOrders most rows key number reports
    pub told : AreTold rows key watched

  -- the keys are those that the rows begin calls on; each is watched; all that is reported is so;
  -- and each answer of a read that was given up is reported
  pub record AreWatched (keys : WatchedKeys) : Type 0 where
    pub seen : AreFirstSeen rows keys.numbers
    pub many : length keys.watched.items ≡ length keys.numbers
    pub each : (number : ℕ) (key : List ℕ) (watched : Watched)
        → slice_get keys.numbers number ≡ Some key
        → slice_get keys.watched.items number ≡ Some watched
        → IsWatched keys.reports.items number key watched
    pub reported : (report : Report) → Contains keys.reports.items report
        → IsTrueReport most rows keys.numbers report
    pub ended : (op : OpId) → Contains gone op.0 → HasResponse rows op
        → WasEnded keys.reports.items op
