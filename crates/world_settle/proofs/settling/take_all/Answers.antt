use Rattle.std.proofs.Common.{subst, sym, arith}
use Rattle.std.proofs.lemmas.Result.{err_from_is_err_and}
use Rattle.world_steps.specs.SoundSystems.{IsSound}
use Rattle.world_settle.proofs.Forward.{going_ended, going_few, going_none, going_on, going_sound, going_stopped, going_taken}
use Rattle.world_settle.proofs.settling.take_all.Goals as goal

pub loop-step-init : goal.loop-step-init
loop-step-init c = going_none c.args.world.now c.args.client c.args.steps c.requires.begins

pub take-requires-clause-taken : goal.take-requires-clause-taken
take-requires-clause-taken c =
    let l = c.loop-step in
    going_taken c.args.world.now c.args.client l.world l.steps l.count l.invariant c.in-Some.step c.next.new.self c.in-Some.ensures

pub take-requires-clause-few : goal.take-requires-clause-few
take-requires-clause-few c =
    let l = c.loop-step in
    let few = going_few c.args.world.now c.args.client l.world l.steps l.count l.invariant c.in-Some.step c.next.new.self c.in-Some.ensures in
    omega (arith, few)

pub returns-in_err-count-clause-settles : goal.returns-in_err-count-clause-settles
returns-in_err-count-clause-settles c =
    let l = c.loop-step in
    let p = err_from_is_err_and c.from_residual.result c.from_residual.ensures.1 in
    rw (p.1, p.2) (going_stopped c.args.world.now c.args.client l.world l.steps l.count l.invariant c.in-Some.step c.next.new.self c.in-Some.ensures
    c.in_err-count.field-0.0 c.take.new.world c.requires.begins.may c.in_err-count.ensures.memory c.in_err-count.ensures.err)

pub returns-in_err-count-clause-sound : goal.returns-in_err-count-clause-sound
returns-in_err-count-clause-sound c =
    let l = c.loop-step in
    subst IsSound (sym c.in_err-count.ensures.err) (going_sound c.args.world.now c.args.client l.world l.steps l.count l.invariant
    c.steps_keep_a_system_sound.ensures.steps c.requires.sound)

pub loop-step-smaller : goal.loop-step-smaller
loop-step-smaller c =
    let l = c.loop-step in
    let more = c.in_ok-count.ensures.count in
    let few = going_few c.args.world.now c.args.client l.world l.steps l.count l.invariant c.in-Some.step c.next.new.self c.in-Some.ensures in
    omega (arith, few, more)

pub loop-step-preserved : goal.loop-step-preserved
loop-step-preserved c =
    let l = c.loop-step in
    rw c.in_ok-count.ensures.count (going_on c.args.world.now c.args.client l.world l.steps l.count l.invariant c.in-Some.step c.next.new.self c.in-Some.ensures
    c.take.new.world c.in_ok-count.ensures.next)

pub returns-clause-settles : goal.returns-clause-settles
returns-clause-settles c =
    let l = c.loop-step in
    going_ended c.args.world.now c.args.client l.world l.steps l.count l.invariant c.next.new.self c.requires.begins.may c.in_default.ensures

pub returns-clause-sound : goal.returns-clause-sound
returns-clause-sound c =
    let l = c.loop-step in
    going_sound c.args.world.now c.args.client l.world l.steps l.count l.invariant c.steps_keep_a_system_sound.ensures.steps c.requires.sound
