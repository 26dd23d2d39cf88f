use Rattle.tag_check.proofs.Refutations.{sound_exactly_ok}
use Rattle.tag_check.proofs.check.check_tags.Goals as goal

pub returns-clause-sound : goal.returns-clause-sound
returns-clause-sound c = sound_exactly_ok c.args.part.now c.broken_rule.result (rw c.new.ensures at c.broken_rule.ensures)
