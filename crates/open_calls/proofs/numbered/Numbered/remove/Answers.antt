use Rattle.std.proofs.Common.{None}
use Rattle.open_calls.specs.Indexes.{entry_at}
use Rattle.open_calls.specs.Numbered.{slot_of}
use Rattle.open_calls.proofs.Maps.{sets_from}
use Rattle.open_calls.proofs.InSlots.{gone_from_others}
use Rattle.open_calls.proofs.numbered.Numbered.remove.Goals as goal

pub returns-in-None-clause-gone : goal.returns-in-None-clause-gone
returns-in-None-clause-gone g c =
    let old = c.args.self.now in
    gone_from_others (slot_of old.slots.items) (slot_of c.take_from.new.slots.items) (entry_at old.others.entries) (entry_at c.remove.new.self.entries) c.args.number c.take_from.ensures.left
    (sets_from old.others c.remove.new.self c.args.number None c.remove.ensures.updates)
