use Rattle.cli.proofs.justify.made_of_parts.Goals as goal

pub returns-then-unchecked : goal.returns-then-unchecked
returns-then-unchecked c = rw c.if-unchecked.true c.ordered.ensures
