use Rattle.key_monitor.proofs.Following.{one_goes}
use Rattle.key_monitor.proofs.state_laws.follows_when_a_forgotten_family_goes.Goals as goal

pub returns : goal.returns
returns c part source row op end state kept known writes f at ended lacks gone zones without = one_goes part source row state f op end
    kept known at ended lacks gone zones writes without
