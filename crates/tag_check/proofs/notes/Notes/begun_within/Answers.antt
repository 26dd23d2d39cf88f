use Rattle.std.proofs.Common.{◌+◌, ◌-◌, ◌/◌, arith}
use Rattle.tag_check.proofs.Answered.{begun_to, later_from, begun_between}
use Rattle.tag_check.proofs.notes.Notes.begun_within.Goals as goal

pub state-invoked-requires : goal.state-invoked-requires
state-invoked-requires c = omega (arith, c.halves-test.true, c.halves.invariant.inside, c.requires.inside)

pub halves-preserved-then-invoked-place : goal.halves-preserved-then-invoked-place
halves-preserved-then-invoked-place c =
    let was = c.halves.invariant in
    let s = c.args.self.now in
    record {
      order = omega (arith, c.halves-test.true);
      inside = was.inside;
      begun = λ j b less above at. begun_to s.part.now s.sequence c.args.place (c.halves.low + (c.halves.high - c.halves.low) / 2) c.state-invoked.ensures.0 c.state-invoked.ensures.1 (omega (arith, c.if-invoked-place.true, c.state-invoked.ensures.2.invoked)) j b (omega (arith, less)) at;
      later = was.later;
    }

pub halves-preserved : goal.halves-preserved
halves-preserved c =
    let was = c.halves.invariant in
    let s = c.args.self.now in
    record {
      order = omega arith;
      inside = omega (arith, c.halves-test.true, was.inside);
      begun = was.begun;
      later = λ j b after below at. later_from s.part.now s.sequence c.args.place (c.halves.low + (c.halves.high - c.halves.low) / 2) c.state-invoked.ensures.0 c.state-invoked.ensures.1 (omega (arith, c.if-invoked-place.false, c.state-invoked.ensures.2.invoked)) j b after at;
    }

pub returns-clause-begun : goal.returns-clause-begun
returns-clause-begun c = begun_between c.args.self.now.part.now c.args.place c.args.low c.args.high c.halves.low c.halves.invariant.begun (λ j b after below at. c.halves.invariant.later j b (omega (arith, c.halves-test.false, after)) below at)
