use Rattle.std.proofs.lemmas.Result.{on_ok_weaker}
use Rattle.sentences.proofs.Appending.{more_two}
use Rattle.explanations.proofs.rules.append_rule.Goals as goal

pub returns-in_ok-append_op-in-SameTag : goal.returns-in_ok-append_op-in-SameTag
returns-in_ok-append_op-in-SameTag c =
    rw c.in-SameTag.is (on_ok_weaker c.append_op-in-SameTag-2.result (more_two c.args.text.now.items _ _ _ _ _ c.in_ok-append_op-in-SameTag.ensures) c.append_op-in-SameTag-2.ensures)

pub returns-in-Some : goal.returns-in-Some
returns-in-Some c =
    rw (c.in-OtherValue.is, c.in-Some.is) (on_ok_weaker c.append_op-in-Some.result (more_two c.args.text.now.items _ _ _ _ _ c.in_ok-append_op-in-OtherValue.ensures) c.append_op-in-Some.ensures)
