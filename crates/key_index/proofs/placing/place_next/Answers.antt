use Rattle.key_index.proofs.Placements.{standing_more, other_more}
use Rattle.key_index.proofs.placing.place_next.Goals as goal

pub returns-then-put-clause-ok : goal.returns-then-put-clause-ok
returns-then-put-clause-ok c =
    let stands = rw c.requires.mark at (c.put.ensures.put c.if-put.true) in
    standing_more c.args.slots.now c.put.new.slots c.args.others.now c.args.keys.now c.args.key.now c.requires.placed
    c.requires.unseen c.put.ensures.kept stands

pub returns-clause-ok : goal.returns-clause-ok
returns-clause-ok c =
    let updates = rw c.of.ensures at c.in_ok-insert.ensures.updates in
    other_more c.args.slots.now c.put.new.slots c.args.others.now c.insert.new.self c.args.keys.now c.args.key.now
    c.requires.placed c.requires.unseen c.put.ensures.kept updates
