use Rattle.std.proofs.Common.{inl, inr, refl}
use Rattle.cli.specs.Hints.{MakesHinted}
use Rattle.cli.specs.TagOrders.{MakesOrders}
use Rattle.cli.proofs.Endings.{concluded, stopped}
use Rattle.cli.proofs.Justified.{of_file}
use Rattle.cli.proofs.justify.justify_command.Goals as goal

pub returns-in-Ok : goal.returns-in-Ok
returns-in-Ok g c =
    concluded _ _ _ _ _ _ c.orders_made.result c.orders_made.ensures.made c.orders_made.ensures.stops (of_file (MakesHinted (MakesOrders c.args.unchecked) c.args.people) _ c.in-Ok.histories c.in-Ok.ensures.read) (λ why is. inr is) c.conclude.result c.conclude.ensures

pub returns-in-Err : goal.returns-in-Err
returns-in-Err g c = stopped _ _ _ _ c.in-Err.failure (inl c.in-Err.ensures.told) refl c.report.result c.report.ensures.status c.report.ensures.told
