use Rattle.traces.specs.StepLines.{effect_text}
use Rattle.traces.proofs.effects.append_effect.Goals as goal

pub returns-in-Answered : goal.returns-in-Answered
unfolding effect_text
returns-in-Answered c = rw c.in-Answered.is c.append_flight-in-Answered.ensures
