-- Lines that are judged ahead of where they are read.
use Rattle.std.specs.Prelude.{ℕ, ◌≡◌, ◌≤◌, List, ◌++◌, length, Option, Result, MatchResult}
use Rattle.counted_devices.specs.Cuts.{Splits, longest_line}
use Rattle.counted_devices.specs.FirstFaults.{LineRules, FaultSoFar, faults_by}
use Rattle.counted_devices.specs.declared.read_fault.ReadFault.{ReadFault}
use Rattle.line_files.specs.LinesRead.{HasRead, ShownUnder}
use Rattle.line_files.specs.Feeds.{StandsForLines}
use Rattle.line_files.specs.declared.ahead.Ahead.{Ahead}
use Rattle.line_files.specs.declared.feed.Feed.{Feed}
use Rattle.line_files.specs.declared.judged_lines.JudgedLines.{JudgedLines}
use Rattle.line_files.specs.declared.progress.Progress.{Progress}

-- under that context the bytes' lines show that, and that rest is left
pub record IsJudged {L Item Context : Type 0} (Shows : Context → List ℕ → Result Item L → Type 0)
    (context : Option Context) (bytes : List ℕ) (judged : JudgedLines Item L) : Type 0 where
  pub lines : List (List ℕ)
  pub splits : Splits bytes lines judged.rest.items
  pub shown : ShownUnder Shows context lines judged.judgements

-- the fault is the bytes' first one, whatever follows
abbrev pub FaultStays : {L : Type 0} → LineRules L → List ℕ → ReadFault L → Type 0
FaultStays rules bytes fault =
    (more : List ℕ) → FaultSoFar (faults_by rules) (bytes ++ more) fault.line fault.kind

module _ {L Item Context Contents : Type 0} (Reads : List (List ℕ) → Contents → Type 0)
    (context : Contents → Option Context) (Shows : Context → List ℕ → Result Item L → Type 0) where
  -- of the whole lines of the bytes the first were read, and those after them were judged
  pub record AreReadOrJudged (bytes : List ℕ) (progress : Progress Contents)
      (judged : JudgedLines Item L) : Type 0 where
    pub read : List (List ℕ)
    pub waiting : List (List ℕ)
    pub splits : Splits bytes (read ++ waiting) judged.rest.items
    pub at : HasRead Reads read progress
    pub shown : ShownUnder Shows (context progress.contents) waiting judged.judgements

  -- of the whole lines so far some were read, and the others were judged
  pub record IsAhead (bytes : List ℕ) (ahead : Ahead Contents Item L) : Type 0 where
    pub at : AreReadOrJudged bytes ahead.progress ahead.judged
    pub fed : ahead.fed ≡ length bytes

  -- and the line under way isn't too long
  abbrev pub StandsAhead : List ℕ → Ahead Contents Item L → Type 0
  StandsAhead bytes ahead =
      IsAhead bytes ahead × (length ahead.judged.rest.items ≤ longest_line)

  -- what is answered stands for these bytes, or their first fault is answered
  abbrev pub GoesAhead : LineRules L → List ℕ → Result (Ahead Contents Item L) (ReadFault L)
      → Type 0
  GoesAhead rules bytes result = MatchResult result (λ new. StandsAhead bytes new)
      (λ fault. FaultSoFar (faults_by rules) bytes fault.line fault.kind)

-- the feed stands for all the lines, or the first fault is answered
abbrev pub BecomesFeed : {L Contents : Type 0} → LineRules L
    → (List (List ℕ) → Contents → Type 0) → List ℕ → Result (Feed Contents L) (ReadFault L)
    → Type 0
BecomesFeed rules Reads bytes result = MatchResult result
    (λ feed. StandsForLines Reads bytes feed)
    (λ fault. FaultSoFar (faults_by rules) bytes fault.line fault.kind)
