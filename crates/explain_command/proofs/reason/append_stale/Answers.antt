use Rattle.std.proofs.lemmas.Result.{on_ok_weaker}
use Rattle.explain_command.proofs.Spelling.{stale_said}
use Rattle.explain_command.proofs.reason.append_stale.Goals as goal

pub returns : goal.returns
returns c =
    on_ok_weaker c.append.result
    (stale_said c.args.text.now.items c.append_number.new.text.items c.append_number-2.new.text.items c.append.new.text.items c.args.stale c.args.reads
    c.in_ok-append_number.ensures c.in_ok-append_number-2.ensures) c.append.ensures
