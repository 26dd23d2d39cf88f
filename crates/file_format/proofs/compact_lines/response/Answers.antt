use Rattle.std.proofs.Common.{ℕ, List, ◌++◌, codes, ap, ◌∙◌}
use Rattle.file_format.specs.RowTexts.{after_call, after_marks}
use Rattle.file_format.proofs.SaidRows.{empty_serves}
use Rattle.file_format.proofs.compact_lines.response.Goals as goal

pub returns-then-is_all : goal.returns-then-is_all
returns-then-is_all c =
    let none = empty_serves c.none-none.result.text.now c.none-none.ensures in
    record {
      number = c.args.marks.line;
      numbered = c.requires;
      text = ap (λ (s : List ℕ). after_call c.args.op (after_marks c.args.marks (codes ",\"row\":\"respond\"" ++ s)))
          (c.is_all.ensures c.if-is_all.true);
      range = record { call = c.call_in_range.ensures; answers = tt };
      lawful = record { key = tt; short = none.short; value = none.value };
      key = none.utf8;
      value = none.utf8;
    }

pub returns-then-is_all-2 : goal.returns-then-is_all-2
returns-then-is_all-2 c =
    let none = empty_serves c.none-none.result.text.now c.none-none.ensures in
    record {
      number = c.args.marks.line;
      numbered = c.requires;
      text = ap (λ (s : List ℕ). after_call c.args.op (after_marks c.args.marks (codes ",\"row\":\"respond\"" ++ s)))
          (c.is_all-2.ensures c.if-is_all-2.true);
      range = record { call = c.call_in_range.ensures; answers = tt };
      lawful = record { key = tt; short = none.short; value = none.value };
      key = none.utf8;
      value = none.utf8;
    }

pub returns : goal.returns
returns c =
    let none = empty_serves c.none-none.result.text.now c.none-none.ensures in
    let valued = c.in_ok-value.ensures.lawful in
    let value = c.in_ok-rest.ensures ∙ ap (λ (s : List ℕ). codes ",\"value\":" ++ s) c.in_ok-value.ensures.text in
    record {
      number = c.args.marks.line;
      numbered = c.requires;
      text = ap (λ (s : List ℕ). after_call c.args.op (after_marks c.args.marks (codes ",\"row\":\"respond\"" ++ s))) value;
      range = record { call = c.call_in_range.ensures; answers = valued };
      lawful = record { key = tt; short = none.short; value = valued.short };
      key = none.utf8;
      value = valued.text;
    }
