use Rattle.std.proofs.Common.{ℕ, nat_lt, rules}
use Rattle.std.proofs.lemmas.List.Sorted.{IsPartitionPoint-from_clause}
use Rattle.labels.proofs.Counts.{count_below, rising_not_falling}
use Rattle.diagram_places.proofs.layout.names_below.Goals as goal

pub returns-clause-count : goal.returns-clause-count
returns-clause-count c =
    let found = c.partition_point in
    count_below (λ (x : ℕ). x) c.args.names.now 0 c.args.name found.result (rising_not_falling c.args.names.now c.requires) found.ensures.bound
    (λ parted. IsPartitionPoint-from_clause (λ (x : ℕ). nat_lt x c.args.name) _ _ found.ensures.partitioned parted (λ a r f called. search rules))
