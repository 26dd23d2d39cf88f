use Rattle.pictures.proofs.Naming.{one_named, named_whole}
use Rattle.pictures.proofs.laws.clients_are_named_whole.Goals as goal

pub returns : goal.returns
returns c = record { one = one_named; whole = named_whole }
