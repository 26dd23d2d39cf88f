use Rattle.std.proofs.Common.{◌≡◌, ◌++◌, nat_lt, false, drop}
use Rattle.serde_json.specs.Written.{items_text}
use Rattle.file_format.specs.Ranges.{IsOp}
use Rattle.file_format.specs.Texts.{calls_data}
use Rattle.file_format.proofs.EachElement.{AllBefore}
use Rattle.file_format.proofs.texts.append_calls.Given as goal

abbrev pub invariant-loop-place : goal.invariant-loop-place
invariant-loop-place l = record {
  text : l.out.items ++ items_text (nat_lt 0 l.place) (calls_data (drop l.place l.calls)) ≡ l.initial.out.items
      ++ items_text false (calls_data l.calls);
  range : AllBefore IsOp l.calls l.place;
}
