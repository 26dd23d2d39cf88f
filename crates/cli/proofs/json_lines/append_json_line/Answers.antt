use Rattle.std.proofs.Common.{List, ℕ, ◌++◌, ap, ◌∙◌}
use Rattle.std.proofs.lemmas.Result.{on_ok_weaker}
use Rattle.cli.proofs.LineSpelling.{json_said}
use Rattle.cli.proofs.json_lines.append_json_line.Goals as goal

pub returns : goal.returns
returns c =
    let begun = c.append.new.text.items in
    on_ok_weaker c.append-4.result
    (json_said c.args.text.now.items begun c.append-2.new.text.items c.append-3.new.text.items c.append_verdict_members.new.text.items
    c.append-4.new.text.items c.args.key.now c.args.verdict c.in_ok-append.ensures
    (c.in_ok-append-2.ensures ∙ ap (λ (x : List ℕ). begun ++ x) c.as_str.ensures.text) c.in_ok-append-3.ensures c.in_ok-append_verdict_members.ensures)
    c.append-4.ensures
