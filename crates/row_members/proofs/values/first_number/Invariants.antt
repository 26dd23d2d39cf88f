use Rattle.std.proofs.Common.{length, get_or, take, ◌-◌, ◌<◌, ◌≤◌, ◌≡◌}
use Rattle.std.specs.Char.{IsAsciiDigit}
use Rattle.std.specs.Str.Parse.{AllDigits, digits_value}
use Rattle.row_members.proofs.values.first_number.Given as goal

abbrev pub invariant-loop-count : goal.invariant-loop-count
invariant-loop-count l = record {
  within : l.count ≤ length l.bytes;
  few : l.count ≤ 19;
  digits : AllDigits 10 (take l.count l.bytes);
  second : 1 < l.count → IsAsciiDigit (get_or l.bytes 1 0);
  value : l.value ≡ digits_value 10 (take l.count l.bytes);
}

abbrev pub decreases-loop-count : goal.decreases-loop-count
decreases-loop-count l = length l.bytes - l.count
