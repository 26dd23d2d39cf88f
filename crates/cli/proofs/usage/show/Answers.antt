-- The text was sent.
use Rattle.std.proofs.Common.{Ok}
use Rattle.std.specs.Prelude.{string_bytes}
use Rattle.cli.specs.Usages.{IsShown}
use Rattle.cli.proofs.Endings.{concluded}
use Rattle.cli.proofs.usage.show.Goals as goal

pub returns : goal.returns
returns g c =
    let Is = IsShown (string_bytes c.args.text) in
    concluded _ _ Is Is (λ why. ⊥) (λ why. ⊥) (Ok c.shown.result) c.shown.ensures tt (λ outcome is. is) (λ why none. none) c.conclude.result c.conclude.ensures
