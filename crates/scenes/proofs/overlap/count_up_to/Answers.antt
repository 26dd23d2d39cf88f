use Rattle.std.proofs.Common.{ℕ, nat_le, rules}
use Rattle.std.proofs.lemmas.List.Sorted.{IsPartitionedBy-leb, IsPartitionPoint-from_clause}
use Rattle.scenes.proofs.Overlaps.{count_partition}
use Rattle.scenes.proofs.overlap.count_up_to.Goals as goal

pub returns : goal.returns
returns c =
    let places = c.args.places.now in
    let place = c.args.place in
    let found = c.partition_point in
    let parted = IsPartitionedBy-leb (λ (x : ℕ). x) places place c.requires in
    let point = IsPartitionPoint-from_clause (λ (x : ℕ). nat_le x place) places found.result found.ensures.partitioned parted
    (λ a r f called. search rules) in
    count_partition (λ (x : ℕ). nat_le x place) places found.result found.ensures.bound point
