use Rattle.std.proofs.Common.{length, ◌∙◌}
use Rattle.value_order.proofs.KnownFirsts.{none_free, found_among}
use Rattle.value_order.proofs.firsts.Firsts.find.Goals as goal

pub returns-in-Free : goal.returns-in-Free
returns-in-Free c =
    let part = c.args.part.now in
    let p = rw (c.as_slice.ensures.value, c.mark_of.ensures) at c.in-Free.ensures in
    none_free part (length part) c.args.self.now.slots.items c.args.self.now.others c.requires c.args.value.now c.in-Free.field-0 p.0 p.1

pub returns-in-Full : goal.returns-in-Full
returns-in-Full c =
    let part = c.args.part.now in
    let p = rw (c.as_slice.ensures.value, c.mark_of.ensures) at c.in-Full.ensures in
    found_among part (length part) c.args.self.now.slots.items c.args.self.now.others c.requires c.args.value.now p.1 c.copied.result (c.copied.ensures ∙ c.get.ensures.value)
