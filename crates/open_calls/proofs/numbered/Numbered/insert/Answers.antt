use Rattle.open_calls.specs.Indexes.{entry_at}
use Rattle.open_calls.specs.Numbered.{slot_of}
use Rattle.open_calls.proofs.InSlots.{put_value}
use Rattle.open_calls.proofs.numbered.Numbered.insert.Goals as goal

pub returns-clause-ok : goal.returns-clause-ok
returns-clause-ok g c =
    let old = c.args.self.now in
    put_value (slot_of old.slots.items) (slot_of c.make.new.slots.items) (slot_of c.empty.new.slots.items) (slot_of c.put.new.slots.items) (entry_at old.others.entries) (entry_at c.empty.new.others.entries) c.args.number c.home_of-home.result c.args.value
    c.home_of-home.ensures.is c.requires.fit c.make.ensures.same c.in_ok-empty.ensures.ok c.put.ensures
