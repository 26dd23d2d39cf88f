use Rattle.std.proofs.Common.{◌≡◌, ◌≤◌, ◌-◌, true, length, take}
use Rattle.std.specs.Char.{is_ascii}
use Rattle.std.specs.List.{list_all}
use Rattle.row_members.specs.Scans.{is_plain}
use Rattle.row_members.proofs.scan.plain_run.Given as goal

abbrev pub invariant-loop-length : goal.invariant-loop-length
invariant-loop-length l = record {
  within : l.length ≤ length l.bytes;
  plain : list_all is_plain (take l.length l.bytes) ≡ true;
  ascii : l.is_ascii ≡ list_all is_ascii (take l.length l.bytes);
}

abbrev pub decreases-loop-length : goal.decreases-loop-length
decreases-loop-length l = length l.bytes - l.length
