use Rattle.std.proofs.Common.{sym, ◌∙◌, ap}
use Rattle.world_steps.specs.Systems.{deliver, lose}
use Rattle.world_steps.specs.declared.system.System.{System}
use Rattle.world_steps.proofs.system.System.deliver.Goals as goal

pub returns : goal.returns
returns c =
    let s = c.args.self.now in (
      c.in_ok-effect.ensures.effect,
      c.lose.ensures ∙ ap (λ (x : System). lose x c.args.flight) (c.in_ok-effect.ensures.ok c.requires.message c.requires.is)
          ∙ ap (deliver s c.args.flight) (sym c.requires.is),
    )
