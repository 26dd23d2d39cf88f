use Rattle.std.proofs.Common.{rules}
use Rattle.markup.proofs.Escaping.{escaped_tenths}
use Rattle.markup.proofs.attributes.append_fraction.Goals as goal

pub returns : goal.returns
returns c = rw (escaped_tenths c.args.tenths (search rules)) (search rules)
