use Rattle.message_scenes.specs.Calls.{is_of_call, noted}
use Rattle.message_scenes.proofs.Changed.{changed_here, unchanged}
use Rattle.message_scenes.proofs.calls.note.Goals as goal
use Rattle.std.proofs.Common.{sym, ◌∙◌}

pub returns-in-Some : goal.returns-in-Some
returns-in-Some c =
    changed_here (is_of_call c.args.op) (noted c.args.row c.args.tag) c.args.bars.now c.in-Some.k c.index-bars-k.result
    (sym c.first_of.ensures.place ∙ c.in-Some.is)

pub returns-in-None : goal.returns-in-None
returns-in-None c =
    unchanged (is_of_call c.args.op) (noted c.args.row c.args.tag) c.args.bars.now (sym c.first_of.ensures.place ∙ c.in-None.is)
