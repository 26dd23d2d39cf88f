use Rattle.message_scenes.proofs.Changed.{found_bound}
use Rattle.message_scenes.proofs.lists.first_of.Goals as goal

pub returns-clause-bound : goal.returns-clause-bound
returns-clause-bound g c = found_bound (g.T.Named.is_of c.args.name) c.args.items.now _ c.position_of.ensures
