use Rattle.std.proofs.Common.{rules}
use Rattle.markup.proofs.Escaping.{escaped_decimal}
use Rattle.markup.proofs.attributes.append_decimal.Goals as goal

pub returns : goal.returns
returns c = rw (escaped_decimal c.args.number (search rules)) (search rules)
