use Rattle.std.proofs.Common.{◌∙◌, string_bytes, string_len, sym}
use Rattle.test_rows.specs.Spans.{span_line}
use Rattle.test_rows.proofs.Spanning.{added, spelled}
use Rattle.test_rows.proofs.spans.Spans.close.Goals as goal

pub returns : goal.returns
returns c =
    let s = c.args.self.now in
    let line = spelled s.first s.last (string_bytes s.answer) c.as_str.result.now (string_bytes c.in_ok-line.line) (string_len s.answer) s.answer.bytes.ok.0 (sym c.is_empty.ensures ∙ c.if-is_empty.false) c.as_str.ensures.value c.in_ok-line.ensures.ok in
    added c.push_str.result _ (string_bytes s.text) _ (span_line s.first s.last (string_bytes s.answer)) _ c.push_str.ensures.bytes (c.as_str-2.ensures.value ∙ line)
