use Rattle.std.proofs.Common.{◌∙◌}
use Rattle.std.proofs.lemmas.Result.{on_ok_weaker}
use Rattle.decide_command.proofs.Spelling.{fault_said}
use Rattle.decide_command.proofs.json_lines.append_fault_members.Goals as goal

pub returns : goal.returns
returns c =
    on_ok_weaker c.append_fault_calls.result
    (fault_said c.args.text.now.items c.append_number.new.text.items c.append.new.text.items c.append_fault_calls.new.text.items c.args.fault c.from-number.result (c.from-number.ensures ∙ c.number.ensures)
    c.in_ok-append_number.ensures c.in_ok-append.ensures) c.append_fault_calls.ensures
