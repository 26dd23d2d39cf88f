use Rattle.std.proofs.Common.{◌≡◌, length, refl, sym, subst, arith}
use Rattle.std.proofs.lemmas.Result.{err_from_is_err_and}
use Rattle.quorum.specs.Sets.{Replicas}
use Rattle.seats.specs.Rounds.{MakesRounds}
use Rattle.seats.specs.Rounds.MakesRounds.{none, one_more}
use Rattle.seats.proofs.Keeping.{keeps_same, keeps_then}
use Rattle.seats.proofs.Stalling.{rounds_stall, stalls_then}
use Rattle.seats.proofs.errand.Errand.leave.Goals as goal

pub returns-in_err-send_round-clause-stalled : goal.returns-in_err-send_round-clause-stalled
returns-in_err-send_round-clause-stalled g c =
    let p = err_from_is_err_and c.from_residual.result c.from_residual.ensures.1 in
    rw (p.1, p.2) (stalls_then _ _ _ _ c.loop.invariant.kept c.in_err-send_round.ensures.stalled)

pub returns-in_err-next-clause-stalled : goal.returns-in_err-next-clause-stalled
returns-in_err-next-clause-stalled g c =
    let p = err_from_is_err_and c.from_residual-in_err-next.result c.from_residual-in_err-next.ensures.1 in
    rw (p.1, p.2) (stalls_then _ _ _ _ (keeps_then _ _ _ c.loop.invariant.kept c.send_round.ensures.kept) c.in_err-next.ensures.stalled)

pub returns-in_err-send_round-clause-kept : goal.returns-in_err-send_round-clause-kept
returns-in_err-send_round-clause-kept g c = keeps_then _ _ _ c.loop.invariant.kept c.send_round.ensures.kept

pub returns-in_err-next-clause-kept : goal.returns-in_err-next-clause-kept
returns-in_err-next-clause-kept g c = keeps_then _ _ _ (keeps_then _ _ _ c.loop.invariant.kept c.send_round.ensures.kept) c.hear_round.ensures.kept

pub returns-in-Some-clause-kept : goal.returns-in-Some-clause-kept
returns-in-Some-clause-kept g c = keeps_then _ _ _ (keeps_then _ _ _ c.loop.invariant.kept c.send_round.ensures.kept) c.hear_round.ensures.kept

pub loop-preserved : goal.loop-preserved
loop-preserved g c = record {
  kept = keeps_then _ _ _ (keeps_then _ _ _ (keeps_then _ _ _ c.loop.invariant.kept c.send_round.ensures.kept) c.hear_round.ensures.kept)
      c.counted_by-counted.ensures.kept;
  made = one_more _ _ _ _ _ c.loop.invariant.made (record {
    asked = c.send_round.new.pass;
    heard = c.hear_round.new.pass;
    phase = c.counted_by-counted.ensures.told.0;
    asks = c.in_ok-send_round.ensures.asked;
    hears = c.hear_round.ensures.kept;
    counts = c.counted_by-counted.ensures.told.1;
  });
  most = omega (arith, c.loop-test.true);
  end = c.loop.invariant.end;
}

pub returns-clause-stalled : goal.returns-clause-stalled
returns-clause-stalled g c =
    let all : c.loop.counter ≡ c.args.self.now.transport.now.rounds =
    omega (arith, c.loop.invariant.most, c.loop-test.false, c.loop.invariant.end) in
    rounds_stall _ _ _ _ refl
    (subst (λ n. MakesRounds (length c.args.self.now.transport.now.replicas.now) c.args.pass.now n c.loop.counted c.loop.pass) all
    c.loop.invariant.made)

pub loop-init : goal.loop-init
loop-init g c = record {
  kept = keeps_same _;
  made = subst (λ (counted : Replicas). MakesRounds (length c.args.self.now.transport.now.replicas.now) c.args.pass.now 0 counted c.args.pass.now)
      (sym c.empty-counted.ensures) none;
  most = omega arith;
  end = refl;
}
