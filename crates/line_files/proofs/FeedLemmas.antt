-- Bytes that come in blocks.
use Rattle.std.proofs.Common.{ℕ, ◌≡◌, ◌<◌, ◌≤◌, inl, List, [], ◌∷◌, ◌++◌, length, None, sym, subst}
use Rattle.counted_devices.specs.declared.read_fault.FaultKind.{FaultKind}
use Rattle.counted_devices.specs.Cuts.{last_lines}
use Rattle.counted_devices.specs.FirstFaults.{LineRules, IsFirstFault, FirstFaultSoFar, FirstFaultInAll, FaultSoFar, FaultInAll, faults_by, whole_lines}
use Rattle.counted_devices.proofs.CutLemmas.{last_none}
use Rattle.counted_devices.proofs.CutOnce.{splits_once}
use Rattle.counted_devices.proofs.FaultKinds.{of_line}
use Rattle.line_files.specs.declared.feed.Feed.{Feed}
use Rattle.line_files.specs.declared.progress.Progress.{Progress}
use Rattle.line_files.specs.Feeds.{StandsForLines}
use Rattle.line_files.specs.LinesRead.{HasRead, AreRead}
use Rattle.line_files.proofs.Ends.{last_ended}

module _ {L Contents : Type 0} (Reads : List (List ℕ) → Contents → Type 0) (bytes : List ℕ) (feed : Feed Contents L) where
  -- a feed's bytes, as they were read
  pub read_by : StandsForLines Reads bytes feed → AreRead Reads bytes feed.progress feed.rest.items
  read_by s = record { lines = s.lines; splits = s.splits; at = s.at }

  pub stands_for : AreRead Reads bytes feed.progress feed.rest.items × (length feed.rest.items ≤ 65536) → feed.fed ≡ length bytes → feed.fault ≡ None → StandsForLines Reads bytes feed
  stands_for r fed sound = record { lines = r.0.lines; splits = r.0.splits; at = r.0.at; short = r.1; fed = fed; sound = sound }

  module _ (s : StandsForLines Reads bytes feed) where
    -- the end after a line's end
    pub none_left : length feed.rest.items ≡ 0 → HasRead Reads (last_lines s.lines feed.rest.items) feed.progress
    none_left none =
        let P : List (List ℕ) → Type 0 = λ ls. HasRead Reads ls feed.progress in
        subst P (sym (last_none s.lines feed.rest.items none)) s.at

    -- the end after a last line without its end, which it got
    pub last_read : 0 < length feed.rest.items → (new : Progress Contents) (left : List ℕ) → AreRead Reads (bytes ++ 10 ∷ []) new left → HasRead Reads (last_lines s.lines feed.rest.items) new
    last_read some new left r =
        let same = splits_once (bytes ++ 10 ∷ []) r.lines (last_lines s.lines feed.rest.items) left [] r.splits (last_ended bytes s.lines feed.rest.items s.splits some) in
        let P : List (List ℕ) → Type 0 = λ ls. HasRead Reads ls new in
        subst P same.0 r.at

    pub last_stops : (rules : LineRules L) → 0 < length feed.rest.items → (number : ℕ) (k : FaultKind L) → FaultSoFar (faults_by rules) (bytes ++ 10 ∷ []) number k → FaultInAll (faults_by rules) bytes number k
    last_stops rules some number k h = of_line (FirstFaultSoFar rules (bytes ++ 10 ∷ []) number) (FirstFaultInAll rules bytes number) ⊥ k (λ fault first.
        let lines = last_lines s.lines feed.rest.items in
        let same = splits_once (bytes ++ 10 ∷ []) first.lines lines first.rest [] first.splits (last_ended bytes s.lines feed.rest.items s.splits some) in
        let P : List (List ℕ) → Type 0 = λ ls. IsFirstFault rules (whole_lines ls first.rest) number fault in
        let Q : List ℕ → Type 0 = λ xs. IsFirstFault rules (whole_lines lines xs) number fault in
        record { lines = s.lines; rest = feed.rest.items; splits = s.splits; first = inl (subst Q same.1 (subst P same.0 first.first)) }) h
