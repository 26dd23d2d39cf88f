use Rattle.std.proofs.Common.{ℕ, nat_lt, rules}
use Rattle.std.proofs.lemmas.List.Sorted.{IsPartitionPoint-from_clause}
use Rattle.labels.proofs.Counts.{count_below, rising_not_falling}
use Rattle.pictures.proofs.layout.ticks_before.Goals as goal

pub returns-clause-count : goal.returns-clause-count
returns-clause-count c =
    let found = c.partition_point in
    count_below (λ (x : ℕ). x) c.args.ticks.now 0 c.args.place found.result (rising_not_falling c.args.ticks.now c.requires) found.ensures.bound
    (λ parted. IsPartitionPoint-from_clause (λ (x : ℕ). nat_lt x c.args.place) _ _ found.ensures.partitioned parted (λ a r f called. search rules))
