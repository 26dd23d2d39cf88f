use Rattle.world_steps.proofs.LastingLaws.{held_after, joined_after, rows_after}
use Rattle.world_steps.proofs.laws.further_steps_take_nothing_away.Goals as goal

pub returns-clause-joined : goal.returns-clause-joined
returns-clause-joined c = joined_after

pub returns-clause-held : goal.returns-clause-held
returns-clause-held c = held_after

pub returns-clause-rows : goal.returns-clause-rows
returns-clause-rows c = rows_after
