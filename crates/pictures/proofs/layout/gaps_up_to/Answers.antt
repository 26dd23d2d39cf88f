use Rattle.std.proofs.Common.{map, nat_le, rules}
use Rattle.std.proofs.lemmas.List.Sorted.{IsPartitionPoint-from_clause}
use Rattle.scenes.specs.declared.gaps.Gap.{Gap}
use Rattle.labels.proofs.Counts.{count_up_to, rising_not_falling}
use Rattle.pictures.proofs.Counts.{mapped_not_falling}
use Rattle.pictures.proofs.layout.gaps_up_to.Goals as goal

pub returns-clause-count : goal.returns-clause-count
returns-clause-count c =
    let found = c.partition_point in
    let none : Gap = record { place = 0; calls = 0 } in
    let up = mapped_not_falling (λ (g : Gap). g.place) c.args.gaps.now (rising_not_falling (map (λ (g : Gap). g.place) c.args.gaps.now) c.requires) in
    count_up_to (λ (g : Gap). g.place) c.args.gaps.now none c.args.place found.result up found.ensures.bound
    (λ parted. IsPartitionPoint-from_clause (λ (g : Gap). nat_le g.place c.args.place) _ _ found.ensures.partitioned parted (λ a r f called. search rules))
