use Rattle.std.proofs.lemmas.Result.{on_ok_weaker}
use Rattle.explain_command.proofs.Spelling.{missing_said}
use Rattle.explain_command.proofs.lines.append_missing.Goals as goal

pub returns : goal.returns
returns c =
    on_ok_weaker c.append-2.result
    (missing_said c.args.text.now.items c.append.new.text.items c.append_quoted.new.text.items c.append-2.new.text.items c.args.name.now c.in_ok-append.ensures c.in_ok-append_quoted.ensures) c.append-2.ensures
