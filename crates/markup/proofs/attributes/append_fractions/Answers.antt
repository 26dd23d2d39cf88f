use Rattle.std.proofs.Common.{ℕ, ◌^◌, ◌<◌, arith}
use Rattle.std.proofs.lemmas.Grind.{common_steps}
use Rattle.std.proofs.lemmas.List.Elements.{All-from_get_or}
use Rattle.markup.proofs.Escaping.{escaped_all_tenths}
use Rattle.markup.proofs.attributes.append_fractions.Goals as goal

pub returns : goal.returns
returns c =
    let fit = All-from_get_or (λ (n : ℕ). n < 2 ^ 64) c.args.all.now 0 (λ i within. omega (arith, c.type_inv.all i)) in
    rw (escaped_all_tenths c.args.all.now fit) (grind (arith, common_steps))
