use Rattle.kept_zones.proofs.Slots.{tree_lacks}
use Rattle.kept_zones.proofs.places.Places.remove.Goals as goal

pub returns : goal.returns
returns c =
    let i = c.self.inside in
    let more = tree_lacks i.more c.remove.new.self c.args.key c.remove.ensures.updates c.remove.result c.remove.ensures.value c.remove.ensures.len in
    rw (← c.self.view_is) (c.without-self-inside.ensures _ _ (c.without-self-inside-2.ensures _ _ more))
