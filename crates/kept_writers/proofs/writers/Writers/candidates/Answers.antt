use Rattle.kept_writers.proofs.writers.Writers.candidates.Goals as goal

pub readable_writes-requires-clause-high : goal.readable_writes-requires-clause-high
readable_writes-requires-clause-high c = rw (← c.self.view_is) at c.requires

pub returns : goal.returns
returns c = rw (← c.self.view_is) c.readable_writes.ensures
