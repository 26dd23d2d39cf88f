use Rattle.message_scenes.proofs.Changed.{changed_here, unchanged}
use Rattle.message_scenes.proofs.lists.end_first.Goals as goal
use Rattle.std.proofs.Common.{set, sym, ◌∙◌}

pub returns-in-Some : goal.returns-in-Some
returns-in-Some g c =
    (λ i. set c.args.items.now c.in-Some.k (c.end.ensures i))
    ∙ changed_here (g.T.Named.is_of c.args.name) (g.T.Ending.ended c.args.end) c.args.items.now c.in-Some.k c.index-items-k.result
    (sym c.first_of.ensures.place ∙ c.in-Some.is)

pub returns-in-None : goal.returns-in-None
returns-in-None g c =
    unchanged (g.T.Named.is_of c.args.name) (g.T.Ending.ended c.args.end) c.args.items.now (sym c.first_of.ensures.place ∙ c.in-None.is)
