use Rattle.whole_pictures.proofs.Showing.{no_call}
use Rattle.whole_pictures.proofs.found.no_order.Goals as goal

pub returns-clause-points : goal.returns-clause-points
returns-clause-points c = no_call c.args.hall.now.history.now.rows c.new-order.result.items c.new-order.ensures.items
