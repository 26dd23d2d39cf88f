use Rattle.std.proofs.Common.{◌<◌, length, get_or, arith}
use Rattle.std.proofs.lemmas.Option.{slice_get-get_or}
use Rattle.tag.proofs.Lists.{item_at}
use Rattle.scenes.proofs.ColumnClients.{all_clients, client_more, client_other, rising_clients}
use Rattle.scenes.proofs.columns.clients_in.Goals as goal
use Rattle.scenes.proofs.columns.clients_in.Goals.{then-columns-lane+in_ok-push, else-columns-lane}

pub loop-lane-preserved : goal.loop-lane-preserved
loop-lane-preserved c =
    let lanes = c.args.lanes.now in
    let columns = c.args.columns.now in
    let number = c.args.number in
    let k = c.loop-lane.lane in
    let before = c.loop-lane.clients.items in
    let inside : k < length lanes = omega (arith, c.loop-lane-test.true) in
    let inside_too : k < length columns = omega (arith, inside, c.requires.all) in
    let column = slice_get-get_or columns k 0 inside_too in
    elim c.if-columns-lane.branch [
      | then-columns-lane+in_ok-push w ↦ rw w.clients-is
          (client_more lanes columns number c.requires.rising k w.index-lanes-lane.result before _ (item_at lanes k w.index-lanes-lane.result inside w.index-lanes-lane.is)
          (rw w.if-columns-lane.true at column) w.in_ok-push.ensures.items c.loop-lane.invariant)
      | else-columns-lane w ↦ rw w.clients-is
          (client_other lanes columns number k (get_or columns k 0) before column w.if-columns-lane.false c.loop-lane.invariant)
    ]

pub returns-clause-rising : goal.returns-clause-rising
returns-clause-rising c = rising_clients c.args.lanes.now c.args.columns.now c.args.number c.loop-lane.lane c.loop-lane.clients.items c.loop-lane.invariant

pub returns-clause-clients : goal.returns-clause-clients
returns-clause-clients c = all_clients c.args.lanes.now c.args.columns.now c.args.number c.loop-lane.lane c.loop-lane.clients.items
    c.loop-lane-test.false c.loop-lane.invariant
