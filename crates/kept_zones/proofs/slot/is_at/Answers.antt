use Rattle.kept_zones.proofs.Slots.{at_key}
use Rattle.kept_zones.proofs.slot.is_at.Goals as goal

pub returns-in-Some : goal.returns-in-Some
returns-in-Some c = at_key c.args.slot c.in-Some.entry c.args.key c.in-Some.is
