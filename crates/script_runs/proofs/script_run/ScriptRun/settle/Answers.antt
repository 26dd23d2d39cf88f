use Rattle.std.proofs.Common.{arith}
use Rattle.world_settle.proofs.Forward.{going_few, going_taken}
use Rattle.script_runs.proofs.SettleSteps.{begun, step_more, steps_over}
use Rattle.script_runs.proofs.script_run.ScriptRun.settle.Goals as goal

pub loop-step-init : goal.loop-step-init
loop-step-init g c = begun g.O.Observer.sees c.args.origin.now c.args.self.now.world c.args.client c.args.self.now.observer c.args.steps c.requires

pub take-requires : goal.take-requires
take-requires g c =
    let l = c.loop-step in
    going_taken c.args.self.now.world c.args.client l.self.world l.steps l.count l.invariant.going c.in-Some.step c.next.new.self c.in-Some.ensures

pub overflow_add-count : goal.overflow_add-count
overflow_add-count g c =
    let l = c.loop-step in
    let few = going_few c.args.self.now.world c.args.client l.self.world l.steps l.count l.invariant.going c.in-Some.step c.next.new.self
    c.in-Some.ensures in
    omega (arith, few)

pub loop-step-smaller : goal.loop-step-smaller
loop-step-smaller g c =
    let l = c.loop-step in
    let few = going_few c.args.self.now.world c.args.client l.self.world l.steps l.count l.invariant.going c.in-Some.step c.next.new.self
    c.in-Some.ensures in
    omega (arith, few)

pub loop-step-preserved : goal.loop-step-preserved
loop-step-preserved g c =
    let l = c.loop-step in
    step_more g.O.Observer.sees c.args.origin.now c.args.self.now.world c.args.client c.args.self.now.observer l.self.world l.steps l.count
    l.self.observer l.invariant c.in-Some.step c.next.new.self c.in-Some.ensures c.take.new.self.world c.take.new.self.observer
    c.in_ok-take.ensures.system c.in_ok-take.ensures.seen

pub returns : goal.returns
returns g c =
    let l = c.loop-step in
    steps_over g.O.Observer.sees c.args.origin.now c.args.self.now.world c.args.client c.args.self.now.observer l.self.world l.steps l.count
    l.self.observer l.invariant c.next.new.self c.in_default.ensures
