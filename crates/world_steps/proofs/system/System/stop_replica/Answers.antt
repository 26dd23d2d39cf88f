use Rattle.std.proofs.Common.{false, refl}
use Rattle.world_steps.proofs.Handles.{turned_up}
use Rattle.world_steps.proofs.system.System.stop_replica.Goals as goal

pub returns : goal.returns
returns c =
    (refl, turned_up c.args.self.now c.args.number false c.set_up.new.self c.requires c.set_up.ensures)
