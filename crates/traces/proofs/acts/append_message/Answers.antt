use Rattle.std.proofs.Common.{ℕ, List, ap, ◌∙◌}
use Rattle.std.proofs.lemmas.Result.{on_ok_weaker}
use Rattle.traces.specs.StepLines.{handled_text, message_text, pair_at}
use Rattle.sentences.proofs.Appending.{more, more_same}
use Rattle.traces.proofs.acts.append_message.Goals as goal

pub returns-in_ok-append_replica-in-ToReplica : goal.returns-in_ok-append_replica-in-ToReplica
unfolding message_text
returns-in_ok-append_replica-in-ToReplica c =
    let s = c.args.world.now in
    let number = c.in-ToReplica.number in
    let r = c.in-ToReplica.request in
    rw c.in-ToReplica.is (on_ok_weaker c.append_handled.result (more_same c.args.text.now.items _ _ _ _ _
    ((λ i. handled_text (c.held_at-own.ensures.tag i) (c.held_at-own.ensures.value i) r)
    ∙ ap (λ (key : List ℕ). handled_text (pair_at s number key).tag (pair_at s number key).value r) c.key_of.ensures)
    c.in_ok-append_replica-in-ToReplica.ensures) c.append_handled.ensures)

pub returns-in_ok-append_client-in-ToClient : goal.returns-in_ok-append_client-in-ToClient
unfolding message_text
returns-in_ok-append_client-in-ToClient c =
    rw c.in-ToClient.is (on_ok_weaker c.append_reply.result
    (more c.args.text.now.items _ _ _ _ c.in_ok-append_client-in-ToClient.ensures) c.append_reply.ensures)
