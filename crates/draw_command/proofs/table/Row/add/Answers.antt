use Rattle.std.proofs.Common.{refl}
use Rattle.std.proofs.lemmas.Result.{on_ok_weaker}
use Rattle.draw_command.proofs.table.Row.add.Goals as goal

pub returns : goal.returns
returns c = on_ok_weaker c.append.result (λ added. (_, (c.in_ok-counts.counts, c.in_ok-counts.ensures, refl), added)) c.append.ensures
