use Rattle.std.proofs.Common.{ℕ, ◌++◌, codes, decimal, ap}
use Rattle.std.proofs.lemmas.Result.{on_ok_weaker}
use Rattle.traces.specs.Traces.{head_text, random_line}
use Rattle.sentences.proofs.Appending.{more, more_same}
use Rattle.traces.proofs.telling.append_random.Goals as goal

pub returns : goal.returns
unfolding random_line head_text
returns c =
    let old = c.args.text.now.items in
    on_ok_weaker c.append.result (more old _ _ _ (codes ":\n")
    (more_same old _ _ _ _ _ (ap (λ (n : ℕ). codes " " ++ decimal n) c.from.ensures)
    (more old _ _ _ _ c.in_ok-append_head.ensures c.in_ok-append_number.ensures) c.in_ok-append_number-2.ensures)) c.append.ensures
