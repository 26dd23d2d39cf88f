use Rattle.std.proofs.lemmas.Result.{on_ok_weaker}
use Rattle.sentences.proofs.Appending.{more}
use Rattle.monitor_sentences.specs.Findings.{refused_lines}
use Rattle.monitor_sentences.proofs.findings.append_refused.Goals as goal

pub returns : goal.returns
unfolding refused_lines
returns c =
    let old = c.args.text.now.items in
    on_ok_weaker c.append_from.result (more old _ _ _ _
    (more old _ _ _ _
    (more old _ _ _ _
    (more old _ _ _ _ c.in_ok-append.ensures c.in_ok-append-2.ensures)
    c.in_ok-append_why.ensures)
    c.in_ok-append_reason_if.ensures))
    c.append_from.ensures
