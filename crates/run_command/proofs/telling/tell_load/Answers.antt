use Rattle.run_command.proofs.telling.tell_load.Goals as goal

pub returns-in-ClientTaken-clause-told : goal.returns-in-ClientTaken-clause-told
returns-in-ClientTaken-clause-told g c = rw c.in-ClientTaken.is c.say.ensures
