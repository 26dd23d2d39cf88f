use Rattle.world_settle.proofs.Plans.{plan_of, within_of}
use Rattle.world_settle.proofs.laws.a_pending_call_has_steps.Goals as goal

pub returns : goal.returns
returns c s name sound may =
    let plan = plan_of c.steps_keep_a_system_sound.ensures.steps s sound name may in
    (plan.steps, plan.settles, plan.taken, within_of s name may.room.asked may.room.kept _ may.room.needs plan.few)
