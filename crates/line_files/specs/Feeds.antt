-- What a feed stands for, and what becomes of a block.
use Rattle.std.specs.Prelude.{ℕ, ◌≡◌, ◌≤◌, List, ◌++◌, length, Result, None}
use Rattle.counted_devices.specs.Cuts.{Splits, longest_line}
use Rattle.counted_devices.specs.FirstFaults.{LineRules, FeedAnswers, faults_by}
use Rattle.counted_devices.specs.declared.read_fault.ReadFault.{ReadFault}
use Rattle.line_files.specs.LinesRead.{HasRead}
use Rattle.line_files.specs.declared.feed.Feed.{Feed}

module _ {L Contents : Type 0} (Reads : List (List ℕ) → Contents → Type 0) where
  -- the feed stands for what all lines of the bytes make that are whole so far
  pub record StandsForLines (bytes : List ℕ) (feed : Feed Contents L) : Type 0 where
    pub lines : List (List ℕ)
    pub splits : Splits bytes lines feed.rest.items
    pub at : HasRead Reads lines feed.progress
    pub short : length feed.rest.items ≤ longest_line
    pub fed : feed.fed ≡ length bytes
    pub sound : feed.fault ≡ None

  -- a feed that stood for some bytes stands for them and the block, or their first fault is
  -- answered
  abbrev pub FeedsOn : LineRules L → Feed Contents L → List ℕ → Result (Unit {0}) (ReadFault L)
      → Feed Contents L → Type 0
  FeedsOn rules old block result new = (bytes : List ℕ) → StandsForLines bytes old
      → FeedAnswers (faults_by rules) StandsForLines (bytes ++ block) result new
