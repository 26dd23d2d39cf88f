use Rattle.std.proofs.Common.{ap, ◌∙◌}
use Rattle.replica.specs.Pairs.{Pair}
use Rattle.replica.proofs.Adopting.{pair_found, pair_missed}
use Rattle.replica.proofs.replicas.Replica.held.Goals as goal

pub returns-in-Some-clause-tag : goal.returns-in-Some-clause-tag
returns-in-Some-clause-tag c = rw (← c.self.view_is) (ap (λ (p : Pair). p.tag) (pair_found c.self.inside.pairs c.args.key.now c.in-Some.pair.now c.in-Some.ensures.value))

pub returns-in-Some-clause-value : goal.returns-in-Some-clause-value
returns-in-Some-clause-value c = rw (← c.self.view_is) (c.as_ref.ensures.value ∙ ap (λ (p : Pair). p.value) (pair_found c.self.inside.pairs c.args.key.now c.in-Some.pair.now c.in-Some.ensures.value))

pub returns-in-None-clause-tag : goal.returns-in-None-clause-tag
returns-in-None-clause-tag c = rw (← c.self.view_is) (c.least.ensures ∙ ap (λ (p : Pair). p.tag) (pair_missed c.self.inside.pairs c.args.key.now c.in-None.ensures.value))

pub returns-in-None-clause-value : goal.returns-in-None-clause-value
returns-in-None-clause-value c = rw (← c.self.view_is) (ap (λ (p : Pair). p.value) (pair_missed c.self.inside.pairs c.args.key.now c.in-None.ensures.value))
