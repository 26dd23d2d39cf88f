use Rattle.std.proofs.Common.{ℕ, ◌+◌, ◌≤◌, ap, refl, arith}
use Rattle.script_runs.specs.Observing.Observes.{nothing}
use Rattle.script_runs.specs.Walks.{Walk, walk_from}
use Rattle.script_runs.proofs.Strides.{stride_seen}
use Rattle.script_runs.proofs.Walking.{counted_few, walk_on}
use Rattle.script_runs.proofs.script_run.ScriptRun.walk.Goals as goal

pub loop-turn-init : goal.loop-turn-init
loop-turn-init g c = record {
  at = record { system_is = refl; generator_is = c.new-steps.ensures; taken_is = refl };
  few = omega arith;
  seen = nothing c.args.self.now.observer;
}

pub overflow_add-taken : goal.overflow_add-taken
overflow_add-taken g c =
    let l = c.loop-turn in
    let few : l.taken + c.from.result ≤ l._turn + 1 = rw c.from.ensures (counted_few c.in_ok-stride.field-0 l.taken l._turn l.invariant.few) in
    let below = c.loop-turn-test.true in
    let fits = c.ranges.count.fits in
    omega (arith, few, below, fits)

pub loop-turn-preserved : goal.loop-turn-preserved
loop-turn-preserved g c =
    let l = c.loop-turn in
    let new = c.stride.new in
    let h = c.in_ok-stride.ensures in
    let start : Walk = walk_from c.args.self.now.world c.args.seed in
    record {
      at = walk_on start l._turn l.self.world new.self.world l.steps new.steps l.taken _ c.in_ok-stride.field-0 l.invariant.at h.system h.drawn h.taken
          (ap (λ (n : ℕ). l.taken + n) c.from.ensures);
      few = rw c.from.ensures (counted_few c.in_ok-stride.field-0 l.taken l._turn l.invariant.few);
      seen = stride_seen g.O.Observer.sees c.args.origin.now start l._turn l.self.world l.steps l.taken c.args.self.now.observer l.self.observer
          new.self.observer l.invariant.at l.invariant.seen h.seen;
    }
