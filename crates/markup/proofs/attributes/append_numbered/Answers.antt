use Rattle.std.proofs.Common.{arith, rules}
use Rattle.std.proofs.lemmas.Grind.{common_steps}
use Rattle.markup.proofs.Escaping.{escaped_numbered}
use Rattle.markup.proofs.attributes.append_numbered.Goals as goal

pub returns : goal.returns
returns c = rw (escaped_numbered c.args.words.now c.args.number c.utf8.words (search rules)) (grind (arith, common_steps))
