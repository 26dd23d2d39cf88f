use Rattle.std.proofs.Common.{ℕ, List, ◌++◌, codes, decimal, sym, ap, ◌∙◌}
use Rattle.tag.specs.Tags.{Tag}
use Rattle.file_format.specs.RowTexts.{noted_text}
use Rattle.file_format.proofs.compact_lines.note_tag.Goals as goal

pub returns : goal.returns
returns c =
    let last = ap (λ (s : List ℕ). decimal c.in_ok-writer.writer ++ s) (c.is_all.ensures c.if-not-is_all.false) in
    let writer = ap (λ (s : List ℕ). codes ",\"row\":\"note\",\"writer\":" ++ s) (c.in_ok-writer.ensures ∙ last) in
    c.in_ok-count.ensures ∙ ap (λ (s : List ℕ). decimal c.in_ok-count.count ++ s) (c.in_ok-rest.ensures ∙ writer)
    ∙ ap (λ (tag : Tag). noted_text tag) (sym c.in_ok-tag.ensures.value)
