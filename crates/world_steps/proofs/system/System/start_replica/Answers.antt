use Rattle.std.proofs.Common.{true, refl}
use Rattle.world_steps.proofs.Handles.{set_up_is}
use Rattle.world_steps.proofs.system.System.start_replica.Goals as goal

pub returns : goal.returns
returns c =
    (refl, set_up_is c.args.self.now c.args.number true c.set_up.new.self c.requires c.set_up.ensures)
