use Rattle.std.proofs.Common.{ℕ, List, refl, sym, ◌∙◌, ap, ◌++◌, subst}
use Rattle.tag.specs.declared.numbers.OpId.{OpId}
use Rattle.file_format.specs.CanonicalLines.{IsPieceLine}
use Rattle.file_format.specs.Texts.{piece_text}
use Rattle.file_format.proofs.compact_lines.written_piece.Goals as goal

pub returns-then-is_line : goal.returns-then-is_line
returns-then-is_line c =
    let calls = c.calls-calls.result.now in
    let key = c.key.result.now in
    let line : IsPieceLine c.args.line.now (record { key = key; order = calls }) = record {
      text = sym (c.if-is_line.ensures refl) ∙ c.in_ok-append_piece.ensures.text
          ∙ ap (λ (s : List ℕ). s ++ piece_text (record { key = key; order = calls })) c.clear.ensures.items;
      range = c.in_ok-append_piece.ensures.range;
      few = c.if-calls-gt-MOST_IN_PIECE.false;
    } in
    subst (λ (k : List ℕ). IsPieceLine c.args.line.now (record { key = k; order = c.in-Some.piece.order })) c.key.ensures.text
    (subst (λ (o : List OpId). IsPieceLine c.args.line.now (record { key = key; order = o })) c.calls-calls.ensures line)
