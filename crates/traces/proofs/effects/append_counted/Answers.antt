use Rattle.std.proofs.Common.{codes, decimal, ap, ◌∙◌}
use Rattle.std.proofs.lemmas.Result.{on_ok_weaker}
use Rattle.traces.specs.StepLines.{counted_text}
use Rattle.sentences.proofs.Appending.{more, more_same}
use Rattle.traces.proofs.effects.append_counted.Goals as goal

pub returns : goal.returns
unfolding counted_text
returns c =
    rw c.in-Some.is (on_ok_weaker c.append_number.result
    (more_same c.args.text.now.items _ _ _ _ _ (ap decimal (c.from.ensures ∙ c.get.ensures.number))
    (more c.args.text.now.items _ _ (codes "; it has counted ") _ c.in_ok-append.ensures c.in_ok-append_members.ensures))
    c.append_number.ensures)
