use Rattle.hall_lock.proofs.Moves.{gives, keeps_stopped}
use Rattle.hall_lock.proofs.OneTurn.{recorded}
use Rattle.hall_lock.proofs.door.Door.give_back.Goals as goal

pub send-requires-clause-may : goal.send-requires-clause-may
send-requires-clause-may g c = λ size pass. gives size pass _ _ c.requires

pub send-requires-clause-learns : goal.send-requires-clause-learns
send-requires-clause-learns g c = λ _ _ _ _ _. tt

pub returns-clause-stays : goal.returns-clause-stays
returns-clause-stays g c = keeps_stopped _ _ c.requires

pub returns-clause-recorded : goal.returns-clause-recorded
returns-clause-recorded g c = recorded c.args.hall c.attest.ensures.replay c.attest.ensures.sound c.attest.ensures.formed
