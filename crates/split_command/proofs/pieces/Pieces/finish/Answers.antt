use Rattle.std.proofs.Common.{sym, ◌∙◌}
use Rattle.split_command.proofs.Ending.{has_pieces}
use Rattle.split_command.proofs.pieces.Pieces.finish.Goals as goal

pub returns-in-Ok-clause-split : goal.returns-in-Ok-clause-split
returns-in-Ok-clause-split g c = λ rows few h.
    has_pieces g.W.Write.contents c.args.parts rows c.args.self
    (record { files = c.in-Ok.files; calls = c.begun-calls.result; keys = c.key_count-keys.result }) h few c.if-has_failed.false
    (sym c.count.ensures ∙ c.if-count-parts.false) c.in-Ok.ensures.count c.in-Ok.ensures.texts c.begun-calls.ensures c.key_count-keys.ensures
