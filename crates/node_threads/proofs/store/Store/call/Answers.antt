use Rattle.std.proofs.Common.{◌≡◌, length, subst, rules}
use Rattle.std.specs.Prelude.{IfErr}
use Rattle.recorder.specs.Halls.{hall_of}
use Rattle.seats.specs.Answers.{HasReason}
use Rattle.seats.specs.Rounds.{Reach}
use Rattle.node_threads.specs.Stores.{replica_count}
use Rattle.node_threads.proofs.Failing.{leaves_in, leaves_unanswered}
use Rattle.node_threads.proofs.store.Store.call.Goals as goal

pub returns-clause-answered : goal.returns-clause-answered
returns-clause-answered g c = (leaves_in c.args.seat.now c.in_ok-transport.transport.hall (hall_of c.args.self.now.config.halls c.args.key)
    c.args.key c.args.action c.call_on.result c.call_on.new.seat (search rules) c.call_on.ensures).answered

pub returns-clause-failed : goal.returns-clause-failed
returns-clause-failed g c = (leaves_in c.args.seat.now c.in_ok-transport.transport.hall (hall_of c.args.self.now.config.halls c.args.key)
    c.args.key c.args.action c.call_on.result c.call_on.new.seat (search rules) c.call_on.ensures).failed

pub returns-clause-left : goal.returns-clause-left
returns-clause-left g c =
    leaves_unanswered c.call_on.result c.args.seat.now (hall_of c.args.self.now.config.halls c.args.key) c.args.key c.args.action
    c.call_on.new.seat
    (returns-clause-failed g c)

pub returns-clause-reason : goal.returns-clause-reason
returns-clause-reason g c = λ _ _.
    let replicas : length c.in_ok-transport.transport.replicas.now ≡ replica_count c.args.self.now.config = search rules in
    let rounds : c.in_ok-transport.transport.rounds ≡ c.args.self.now.config.rounds = search rules in
    subst (λ (reach : Reach). IfErr c.call_on.result (λ error. HasReason reach error c.args.seat.now
    (hall_of c.args.self.now.config.halls c.args.key) c.args.key c.args.action c.call_on.new.seat))
    (λ i. record { replicas = replicas i; rounds = rounds i })
    (leaves_in c.args.seat.now c.in_ok-transport.transport.hall (hall_of c.args.self.now.config.halls c.args.key)
    c.args.key c.args.action c.call_on.result c.call_on.new.seat (search rules) c.call_on.ensures).reason

pub returns-clause-stale : goal.returns-clause-stale
returns-clause-stale g c = λ _. (leaves_in c.args.seat.now c.in_ok-transport.transport.hall (hall_of c.args.self.now.config.halls c.args.key)
    c.args.key c.args.action c.call_on.result c.call_on.new.seat (search rules) c.call_on.ensures).stale
