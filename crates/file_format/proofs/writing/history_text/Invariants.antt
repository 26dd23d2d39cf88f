use Rattle.std.proofs.Common.{◌≡◌, ◌++◌, drop}
use Rattle.std.specs.List.{flat_map}
use Rattle.file_format.specs.Ranges.{IsRowInRange}
use Rattle.file_format.specs.Texts.{row_text, history_text}
use Rattle.file_format.proofs.EachElement.{AllBefore}
use Rattle.file_format.proofs.writing.history_text.Given as goal

abbrev pub invariant-loop-place : goal.invariant-loop-place
invariant-loop-place l = record {
  text : l.text.items ++ flat_map row_text (drop l.place l.history.rows) ≡ history_text l.history.rows;
  range : AllBefore IsRowInRange l.history.rows l.place;
}
