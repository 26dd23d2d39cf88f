use Rattle.std.proofs.Common.{List, ℕ, ◌++◌, ap, ◌∙◌}
use Rattle.std.proofs.lemmas.Result.{on_ok_weaker}
use Rattle.decide_command.proofs.Spelling.{key_said}
use Rattle.decide_command.proofs.json_lines.begin_object.Goals as goal

pub returns : goal.returns
returns c =
    let begun = c.append.new.text.items in
    on_ok_weaker c.append-3.result
    (key_said c.args.text.now.items begun c.append-2.new.text.items c.append-3.new.text.items c.args.key.now c.in_ok-append.ensures
    (c.in_ok-append-2.ensures ∙ ap (λ (x : List ℕ). begun ++ x) c.as_str.ensures.text)) c.append-3.ensures
