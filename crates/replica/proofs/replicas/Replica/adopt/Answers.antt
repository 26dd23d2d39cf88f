use Rattle.std.proofs.Common.{rules, ap}
use Rattle.replica.specs.Pairs.{Pairs}
use Rattle.replica.specs.Replicas.{Replica}
use Rattle.replica.proofs.Adopting.{adopt-copied}
use Rattle.std.specs.Option.{option_copied}
use Rattle.replica.proofs.replicas.Replica.adopt.Goals as goal

pub returns-clause-ok : goal.returns-clause-ok
returns-clause-ok c =
    rw (← c.self.view_is)
    (ap (λ (pairs : Pairs). let r : Replica = record { number = c.self.inside.number; pairs = pairs } in r)
    (adopt-copied c.self.inside.pairs c.insert.new.self c.args.key.now c.in_ok-copy.field-0 c.args.tag c.held.result.0 (option_copied c.args.value) c.in_ok-copy_of.field-0
    c.in_ok-copy.ensures.copy c.in_ok-copy_of.ensures.copy (rw (← c.self.view_is) at c.held.ensures.tag) c.if-ge.ensures c.in_ok-insert.ensures.updates))

pub returns-then-ge-clause-spare : goal.returns-then-ge-clause-spare
returns-then-ge-clause-spare c = search rules
