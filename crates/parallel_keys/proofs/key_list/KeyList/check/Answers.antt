use Rattle.parallel_keys.specs.KeysToCheck.{checked_in}
use Rattle.parallel_keys.proofs.Listed.{recorded_at, other_at, told_of}
use Rattle.parallel_keys.proofs.key_list.KeyList.check.Goals as goal

pub returns-then-place-recorded : goal.returns-then-place-recorded
returns-then-place-recorded c =
    told_of (checked_in c.args.self) c.args.place _ c.check_part.result
    (recorded_at c.args.self.recorded.now c.args.self.others.now c.args.place c.index-self-place.result c.if-place-recorded.true)
    c.check_part.ensures

pub returns-else-place-recorded : goal.returns-else-place-recorded
returns-else-place-recorded c =
    let told = rw (c.empty.ensures, c.as_slice.ensures) at c.check_part-else-place-recorded.ensures in
    told_of (checked_in c.args.self) c.args.place _ c.check_part-else-place-recorded.result
    (other_at c.args.self.recorded.now c.args.self.others.now c.args.place c.index-self-place-else-place-recorded.result c.if-place-recorded.false c.requires)
    told
