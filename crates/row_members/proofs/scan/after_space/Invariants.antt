use Rattle.std.proofs.Common.{◌≡◌, ◌≤◌, ◌-◌, length}
use Rattle.row_members.specs.Scans.{lexemes_from}
use Rattle.row_members.proofs.scan.after_space.Given as goal

abbrev pub invariant-loop-at : goal.invariant-loop-at
invariant-loop-at l = record {
  ahead : l.start ≤ l.at;
  within : l.at ≤ length l.line;
  lexed : lexemes_from l.line l.start ≡ lexemes_from l.line l.at;
}

abbrev pub decreases-loop-at : goal.decreases-loop-at
decreases-loop-at l = length l.line - l.at
