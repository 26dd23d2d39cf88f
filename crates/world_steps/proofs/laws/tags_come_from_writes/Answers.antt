use Rattle.world_steps.proofs.Sources.{held_come, notes_come, puts_come, replies_come}
use Rattle.world_steps.proofs.StepsSound.{after_sound}
use Rattle.world_steps.specs.Runs.{after}
use Rattle.world_steps.proofs.laws.tags_come_from_writes.Goals as goal

pub returns-clause-notes : goal.returns-clause-notes
returns-clause-notes c config steps lawful calls = notes_come (after config steps) (after_sound config steps lawful calls)

pub returns-clause-held : goal.returns-clause-held
returns-clause-held c config steps lawful calls = held_come (after config steps) (after_sound config steps lawful calls)

pub returns-clause-puts : goal.returns-clause-puts
returns-clause-puts c config steps lawful calls = puts_come (after config steps) (after_sound config steps lawful calls)

pub returns-clause-replies : goal.returns-clause-replies
returns-clause-replies c config steps lawful calls = replies_come (after config steps) (after_sound config steps lawful calls)
