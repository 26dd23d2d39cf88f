use Rattle.decide_command.proofs.laws.a_key_that_is_atomic_has_an_order.Goals as goal

pub returns : goal.returns
returns c = λ one is. is.ordered
