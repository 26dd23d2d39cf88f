use Rattle.run_command.proofs.telling.tell_no_text.Goals as goal

pub returns-in-Apart-clause-told : goal.returns-in-Apart-clause-told
returns-in-Apart-clause-told g c = rw c.in-Apart.is c.say.ensures
