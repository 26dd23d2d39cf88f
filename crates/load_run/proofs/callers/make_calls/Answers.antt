use Rattle.std.proofs.Common.{ℕ, ◌<◌, arith, subst}
use Rattle.seats.specs.Rounds.{Reach}
use Rattle.load_run.specs.Callers.{LeavesCall, RefusesTurn, reach_in, turn_of}
use Rattle.load_run.proofs.Calling.{called_some, made_more, made_none, open_more, open_new}
use Rattle.load_run.proofs.callers.make_calls.Goals as goal

pub loop-number-init : goal.loop-number-init
loop-number-init g c = record {
  made = made_none c.args.store.now.config c.args.work c.args.seat c.requires.new;
  open_seat = open_new c.args.store.now.config c.args.work.caller c.args.seat c.requires.new;
}

pub returns-in-Err : goal.returns-in-Err
returns-in-Err g c =
    let l = c.loop-number in
    let work = c.args.work in
    let config = c.args.store.now.config in
    let turn = turn_of work l.number in
    let now = c.call_once.new.seat in
    let below : l.number < work.calls = let test = c.loop-number-test.true in omega (arith, test) in
    called_some work l.number l.seat now c.in-Err.error below l.invariant.made
    (subst (λ (n : ℕ). LeavesCall n turn l.seat now) c.requires.of.halls c.in-Err.ensures.left)
    (subst (λ (n : ℕ). RefusesTurn (reach_in work) n turn c.in-Err.error l.seat now) c.requires.of.halls
    (subst (λ (reach : Reach). RefusesTurn reach config.halls turn c.in-Err.error l.seat now) c.requires.of.reach c.in-Err.ensures.refused))

pub loop-number-preserved : goal.loop-number-preserved
loop-number-preserved g c =
    let l = c.loop-number in
    let config = c.args.store.now.config in
    record {
      made = made_more config.halls c.args.work l.number l.seat c.call_once.new.seat l.invariant.made c.in_default.ensures.made;
      open_seat = open_more config config.halls (turn_of c.args.work l.number) l.seat c.call_once.new.seat l.invariant.open_seat
          c.in_default.ensures.made;
    }
