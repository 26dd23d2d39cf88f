use Rattle.std.proofs.Common.{◌≡◌, ℕ, true, length, subst, rules}
use Rattle.std.specs.FinSet as finite
use Rattle.seats.specs.Rounds.{AsksReplica}
use Rattle.std.proofs.lemmas.Result.{err_from_is_err_and}
use Rattle.seats.specs.Rounds.AsksReplicas.{asks, leaves_out, nobody}
use Rattle.seats.proofs.Keeping.{keeps_same, keeps_then}
use Rattle.seats.proofs.Stalling.{stalls_then}
use Rattle.seats.proofs.errand.Errand.send_round.Goals as goal
use Rattle.seats.proofs.errand.Errand.send_round.Goals.{then-not-contains+in_ok-send, else-not-contains}

pub returns-in_err-send-clause-stalled : goal.returns-in_err-send-clause-stalled
returns-in_err-send-clause-stalled g c =
    let p = err_from_is_err_and c.from_residual.result c.from_residual.ensures.1 in
    rw (p.1, p.2) (stalls_then _ _ _ _ c.loop-number.invariant.kept c.in_err-send.ensures.stalled)

pub returns-in_err-send-clause-kept : goal.returns-in_err-send-clause-kept
returns-in_err-send-clause-kept g c = keeps_then _ _ _ c.loop-number.invariant.kept c.send.ensures.kept

pub loop-number-init : goal.loop-number-init
loop-number-init g c = record { kept = keeps_same _; asked = nobody }

pub loop-number-preserved : goal.loop-number-preserved
loop-number-preserved g c = elim c.if-not-contains.branch [
  | then-not-contains+in_ok-send w ↦ rw w.pass-is (record {
    kept = keeps_then _ _ _ c.loop-number.invariant.kept w.send.ensures.kept;
    asked = asks _ _ _ (subst (λ (n : ℕ). AsksReplica (length c.args.self.now.transport.now.replicas.now) c.loop-number.pass n w.send.new.pass)
        c.in-Some.ensures.value w.in_ok-send.ensures.asked) c.loop-number.invariant.asked;
  })
  | else-not-contains w ↦ rw w.pass-is (record {
    kept = c.loop-number.invariant.kept;
    asked = leaves_out _ _ (subst (λ (n : ℕ). finite.contains c.args.counted n ≡ true) c.in-Some.ensures.value (search rules))
        c.loop-number.invariant.asked;
  })
]
