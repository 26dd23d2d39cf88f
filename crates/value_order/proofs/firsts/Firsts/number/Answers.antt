use Rattle.std.proofs.Common.{inl}
use Rattle.value_order.proofs.KnownFirsts.{first_itself, none_free, firsts_known, firsts_placed}
use Rattle.value_order.proofs.firsts.Firsts.number.Goals as goal

pub number_among_others-requires-clause-full : goal.number_among_others-requires-clause-full
number_among_others-requires-clause-full c = rw (c.as_slice.ensures.value, c.mark_of-mark.ensures) at c.in-Full.ensures

pub returns-in-Stands-clause-kept : goal.returns-in-Stands-clause-kept
returns-in-Stands-clause-kept c =
    let p = rw (c.as_slice.ensures.value, c.mark_of-mark.ensures) at c.in-Stands.ensures in
    firsts_known c.args.part.now c.args.i c.args.self.now.slots.items c.args.self.now.others c.requires.firsts c.args.value.now c.requires.writes c.in-Stands.first p.0 (inl p.1)

pub returns-in-Free-clause-first : goal.returns-in-Free-clause-first
returns-in-Free-clause-first c =
    let p = rw (c.as_slice.ensures.value, c.mark_of-mark.ensures) at c.in-Free.ensures in
    first_itself c.args.part.now c.args.i c.args.value.now c.requires.writes (none_free c.args.part.now c.args.i c.args.self.now.slots.items c.args.self.now.others c.requires.firsts c.args.value.now c.in-Free.place p.0 p.1)

pub returns-in-Free-clause-kept : goal.returns-in-Free-clause-kept
returns-in-Free-clause-kept c =
    let p = rw (c.as_slice.ensures.value, c.mark_of-mark.ensures) at c.in-Free.ensures in
    rw c.mark_of-mark.ensures (firsts_placed c.args.part.now c.args.i c.args.self.now.slots.items c.args.self.now.others c.requires.firsts c.args.value.now c.requires.writes c.in-Free.place p.0 p.1)
