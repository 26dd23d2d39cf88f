use Rattle.std.proofs.Common.{map}
use Rattle.parallel_keys.specs.KeysToCheck.{what_of}
use Rattle.whole_pictures.proofs.section.add_others.Goals as goal

pub draw_others-requires-clause-found : goal.draw_others-requires-clause-found
draw_others-requires-clause-found c = (map what_of c.args.keys.now, c.in_ok-together.ensures)
