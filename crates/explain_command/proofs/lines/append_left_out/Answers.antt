use Rattle.std.proofs.lemmas.Result.{on_ok_weaker}
use Rattle.explain_command.proofs.Spelling.{left_out_said}
use Rattle.explain_command.proofs.lines.append_left_out.Goals as goal

pub returns : goal.returns
returns c =
    on_ok_weaker c.append.result
    (left_out_said c.args.text.now.items c.append_number.new.text.items c.append.new.text.items c.left_out_words.result.now c.args.judged c.args.count c.if-count-eq0.false c.left_out_words.ensures c.in_ok-append_number.ensures) c.append.ensures
