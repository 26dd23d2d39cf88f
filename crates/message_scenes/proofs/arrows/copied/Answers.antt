use Rattle.std.proofs.Common.{sym, ◌∙◌}
use Rattle.message_scenes.proofs.More.{copied_found, copied_none}
use Rattle.message_scenes.proofs.arrows.copied.Goals as goal

pub returns-in_ok-copy_from-in-Some : goal.returns-in_ok-copy_from-in-Some
returns-in_ok-copy_from-in-Some c =
    copied_found c.args.flight c.args.row c.args.arrows.now c.in-Some.k c.index-arrows-k.result c.in_ok-copy_from-in-Some.field-0
    (sym c.first_of.ensures.place ∙ c.in-Some.is) c.index-arrows-k.is c.in_ok-copy_from-in-Some.ensures

pub returns-in-None : goal.returns-in-None
returns-in-None c = copied_none c.args.flight c.args.row c.args.arrows.now (sym c.first_of.ensures.place ∙ c.in-None.is)
