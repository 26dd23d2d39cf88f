use Rattle.std.proofs.Common.{map}
use Rattle.cli.proofs.Hinting.{made_hinted}
use Rattle.cli.proofs.justify.orders_made.Goals as goal

pub returns-clause-made : goal.returns-clause-made
returns-clause-made c = made_hinted c.args.histories.now.halls (map (λ p. p.entries) c.in_ok-parts.parts.items) (rw c.halls.ensures.halls at c.in_ok-parts.ensures) c.args.unchecked c.args.people c.in_ok-made.made c.in_ok-hinted.field-0
    (rw c.as_slice.ensures.value at c.in_ok-made.ensures) c.in_ok-hinted.ensures.text c.in_ok-hinted.ensures.found (rw c.as_slice-2.ensures.value at c.in_ok-hinted.ensures.notes)
