use Rattle.std.proofs.Common.{ap, refl}
use Rattle.recorder.specs.Clients.{is_marked}
use Rattle.recorder.proofs.Keeps.{IsKept-same}
use Rattle.recorder.proofs.history.History.copy.Goals as goal

pub invariant_of-result : goal.invariant_of-result
invariant_of-result c =
    IsKept-same c.self.inside _ c.self.invariant c.in_ok-copy.ensures.rows c.in_ok-copy.ensures.states (λ client. ap (λ marks. is_marked marks client) c.in_ok-copy-2.ensures) refl
