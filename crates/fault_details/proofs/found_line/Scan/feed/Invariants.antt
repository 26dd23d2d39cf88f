use Rattle.std.proofs.Common.{ℕ, ◌≡◌, ◌≤◌, ◌+◌, List, length}
use Rattle.fault_details.specs.FoundLines.{IsScan}
use Rattle.fault_details.proofs.Scanning.{Scanned}
use Rattle.fault_details.proofs.found_line.Scan.feed.Given as goal

abbrev pub invariant-lines : goal.invariant-lines
invariant-lines l = record {
  scan : (before : List ℕ) → IsScan before l.fn.self → Scanned before l.block l.rest l.self;
  wanted : l.self.wanted ≡ l.fn.self.wanted;
  few : l.self.under_way ≤ l.self.fed + 1;
  fed : l.self.fed + length l.rest ≡ l.fn.self.fed + length l.block;
}

abbrev pub decreases-lines : goal.decreases-lines
decreases-lines l = length l.rest
