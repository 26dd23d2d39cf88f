use Rattle.kept_zones.proofs.Slots.{alone_by}
use Rattle.kept_zones.proofs.slot.has_no_other.Goals as goal

pub returns-in-Some : goal.returns-in-Some
returns-in-Some c = λ yes. alone_by c.args.slot c.in-Some.entry c.args.key c.in-Some.is yes
