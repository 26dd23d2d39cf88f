-- What went out to a piece's file isn't known, so nothing has to be shown of it.
use Rattle.std.specs.Prelude.{◌≡◌, Bool, true, false}
use Rattle.abd.proofs.split_history.split_into.Goals as goal

pub split_command-requires-clause-fresh : goal.split_command-requires-clause-fresh
split_command-requires-clause-fresh g c κs within p writer at known =
    let contradiction : false ≡ true = known writer in absurd cc
