use Rattle.std.proofs.lemmas.Option.{slice_get-get_or}
use Rattle.reasons.proofs.ListedCalls.{stands, unknown_here, no_write_read}
use Rattle.reasons.proofs.listed.Listed.write_at.Goals as goal

pub returns-in-Some-written-clause-found : goal.returns-in-Some-written-clause-found
returns-in-Some-written-clause-found c =
    let s = c.args.self.now in
    let at = slice_get-get_or s.order.now c.args.place _ c.requires in
    (stands s.part.now s.order.now c.args.place _ c.in-Some.call at c.in-Some.ensures.found, (c.in-Some-written.field-0, c.in-Some-written.ensures.write))

pub returns-in-None-clause-none : goal.returns-in-None-clause-none
returns-in-None-clause-none c =
    let s = c.args.self.now in
    let at = slice_get-get_or s.order.now c.args.place _ c.requires in
    no_write_read s.part.now s.order.now s.sequence c.args.place c.in-Some.call (stands s.part.now s.order.now c.args.place _ c.in-Some.call at c.in-Some.ensures.found) c.in-None.ensures.read

pub returns-in_default-clause-none : goal.returns-in_default-clause-none
returns-in_default-clause-none c =
    let s = c.args.self.now in
    let at = slice_get-get_or s.order.now c.args.place _ c.requires in
    λ value write. (unknown_here s.part.now s.order.now c.args.place _ at c.in_default.ensures.none).1 write.0 write.1
