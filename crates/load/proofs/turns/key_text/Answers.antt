-- The last of the texts is that of the key of number 7.
use Rattle.std.proofs.Common.{◌≡◌, ap, arith}
use Rattle.load.specs.Turns.{key_text}
use Rattle.load.proofs.turns.key_text.Goals as goal

pub returns-in_default-clause-text : goal.returns-in_default-clause-text
returns-in_default-clause-text c =
    let last : 7 ≡ c.args.number = omega (arith, c.in_default, c.requires, c.ranges) in
    ap key_text last
