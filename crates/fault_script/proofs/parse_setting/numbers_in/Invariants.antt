use Rattle.std.proofs.Common.{◌≡◌, take, length, Ok}
use denote.Shadow.{shadow}
use denote.Text.{Utf8}
use Rattle.fault_script.specs.Words.{words}
use Rattle.fault_script.specs.Settings.{numbers_in}
use Rattle.fault_script.proofs.parse_setting.numbers_in.Given as goal

abbrev pub invariant-loop-place : goal.invariant-loop-place
invariant-loop-place l =
    shadow (Utf8 l.behind) × record {
      read : numbers_in l.place (words l.args) ≡ Ok (take l.place l.votes, words l.behind);
      room : length l.votes ≡ 15;
    }
