use Rattle.std.proofs.Common.{codes}
use Rattle.std.proofs.lemmas.Result.{on_ok_weaker}
use Rattle.traces.specs.Words.{reason_text}
use Rattle.sentences.proofs.Appending.{more, number}
use Rattle.traces.proofs.words.append_reason.Goals as goal

pub returns : goal.returns
unfolding reason_text
returns c =
    let old = c.args.text.now.items in
    on_ok_weaker c.append-4.result (more old _ _ _ _
    (more old _ _ _ (codes ", ")
    (more old _ _ _ _
    (more old _ _ _ (codes " ")
    (number old _ (codes " is refused: ") _ _ c.from.ensures c.in_ok-append_number.ensures)
    c.in_ok-append.ensures) c.in_ok-append-2.ensures) c.in_ok-append-3.ensures))
    c.append-4.ensures
