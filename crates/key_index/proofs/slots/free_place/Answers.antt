use Rattle.std.proofs.Common.{length, sym, ltb-true}
use Rattle.tag.proofs.Lists.{item_at}
use Rattle.key_index.specs.Slots.{place_of}
use Rattle.key_index.proofs.Standing.{taken_more}
use Rattle.key_index.proofs.slots.free_place.Goals as goal

pub loop-steps-preserved : goal.loop-steps-preserved
loop-steps-preserved c =
    let slots = c.args.slots.now in
    let slot = c.in_ok-get.field-0.now in
    let found = rw c.place_of-place.ensures at c.in_ok-get.ensures.lookup in
    let place = place_of c.args.mark c.loop-steps.steps (length slots) in
    let here = item_at slots place slot (ltb-true place (length slots) (sym found.0)) found.1 in
    taken_more slots c.args.mark c.loop-steps.steps c.loop-steps.invariant (slot, here, c.if-branch.false)

pub returns-then-branch : goal.returns-then-branch
returns-then-branch c =
    let slots = c.args.slots.now in
    let slot = c.in_ok-get.field-0.now in
    let found = c.in_ok-get.ensures.lookup in
    record {
      steps = c.loop-steps.steps;
      within = c.loop-steps-test.true;
      is = c.place_of-place.ensures;
      slot = slot;
      here = item_at slots c.place_of-place.result slot (ltb-true c.place_of-place.result (length slots) (sym found.0)) found.1;
      unused = c.if-branch.true;
      before = c.loop-steps.invariant;
    }
