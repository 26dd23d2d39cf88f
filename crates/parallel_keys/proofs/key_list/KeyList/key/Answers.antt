use Rattle.std.proofs.Common.{refl}
use Rattle.parallel_keys.proofs.Listed.{recorded_at, other_at}
use Rattle.parallel_keys.proofs.key_list.KeyList.key.Goals as goal

pub returns-then-place-recorded : goal.returns-then-place-recorded
returns-then-place-recorded c =
    (_, recorded_at c.args.self.recorded.now c.args.self.others.now c.args.place c.index-self-place.result c.if-place-recorded.true, refl)

pub returns-else-place-recorded : goal.returns-else-place-recorded
returns-else-place-recorded c =
    (_, other_at c.args.self.recorded.now c.args.self.others.now c.args.place c.index-self-place-else-place-recorded.result c.if-place-recorded.false c.requires, refl)
