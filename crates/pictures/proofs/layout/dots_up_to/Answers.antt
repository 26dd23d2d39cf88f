use Rattle.std.proofs.Common.{nat_le, rules}
use Rattle.std.proofs.lemmas.List.Sorted.{IsPartitionPoint-from_clause}
use Rattle.scenes.specs.declared.scene.Dot.{Dot}
use Rattle.labels.proofs.Counts.{count_up_to}
use Rattle.pictures.proofs.Counts.{mapped_not_falling}
use Rattle.pictures.proofs.layout.dots_up_to.Goals as goal

pub returns-clause-count : goal.returns-clause-count
returns-clause-count c =
    let found = c.partition_point in
    let none : Dot = record { bar = 0; number = 0; place = 0 } in
    let up = mapped_not_falling (λ (d : Dot). d.place) c.args.dots.now c.requires in
    count_up_to (λ (d : Dot). d.place) c.args.dots.now none c.args.place found.result up found.ensures.bound
    (λ parted. IsPartitionPoint-from_clause (λ (d : Dot). nat_le d.place c.args.place) _ _ found.ensures.partitioned parted (λ a r f called. search rules))
