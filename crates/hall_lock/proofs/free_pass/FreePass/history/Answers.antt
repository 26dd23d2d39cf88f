use Rattle.std.proofs.Common.{ap, ◌∙◌}
use Rattle.world_steps.specs.declared.system.System.{System}
use Rattle.hall_lock.proofs.FreeTurns.{copied}
use Rattle.hall_lock.proofs.Results.{ok_map}
use Rattle.hall_lock.proofs.free_pass.FreePass.history.Goals as goal

pub returns-clause-copied : goal.returns-clause-copied
returns-clause-copied g c =
    let told = c.look.ensures.told in
    ok_map c.look.result told.told.1 (λ history is. copied told (is ∙ ap (λ (s : System). s.history) told.told.2))
