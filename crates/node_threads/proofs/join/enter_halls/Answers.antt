use Rattle.std.proofs.Common.{List, sym, subst}
use Rattle.hall_lock.specs.Turns.{ClientView}
use Rattle.node_threads.specs.Joins.{AreOfClient}
use Rattle.node_threads.proofs.Joining.{are_of_client}
use Rattle.node_threads.proofs.join.enter_halls.Goals as goal

pub stop_all-requires : goal.stop_all-requires
stop_all-requires g c = subst (λ (passes : List ClientView). AreOfClient c.args.client passes) (sym c.deref_mut.ensures.value)
    (are_of_client c.args.client c.join_hall.new.passes.items c.join_hall.ensures.fresh)
