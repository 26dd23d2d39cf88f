use Rattle.std.proofs.Common.{◌≡◌, ◌-◌, List, Some, refl, sym, subst, ◌∙◌, ap}
use Rattle.std.specs.Prelude.{IsSome}
use Rattle.std.proofs.lemmas.Result.{err_from_is_err_and}
use Rattle.std.proofs.lemmas.Option.{same_Some, slice_get_within}
use Rattle.replica.specs.Replicas.{replica_after}
use Rattle.replica.specs.declared.replies.Reply.TheVariants.{Kept}
use Rattle.network.specs.declared.messages.Message.{Message}
use Rattle.network.specs.declared.messages.Message.TheVariants.{ToClient, ToReplica}
use Rattle.network.specs.Flights.{IsMessageOf, copies_of, message_of}
use Rattle.network.specs.Pools.{without_last, with_sent}
use Rattle.recorder.specs.Histories.{caller_of}
use Rattle.world_steps.specs.Moves.{MayAdopt, MayHandle}
use Rattle.world_steps.specs.Systems.{arrival_effect, arrive, effect_of, op_of, with_replica}
use Rattle.world_steps.specs.declared.effect.Effect.TheVariants.{Answered}
use Rattle.world_steps.specs.declared.step.Step.TheVariants as step
use Rattle.world_steps.specs.declared.nodes.Node.{Node}
use Rattle.world_steps.specs.declared.system.System.{System}
use Rattle.world_steps.proofs.Handles.{handled, kept_is, on_err, on_ok, on_some, served, still_there, told_same, sent_once, unsent_system}
use Rattle.world_steps.proofs.system.System.handle.Goals as goal
use Rattle.world_steps.proofs.system.System.handle.Goals.{in-Query+in_ok-reply-in-Query+in_ok-sent-in-Query, in-Put+in_ok-sent-in-Put+else-is_err}

pub returns-in_err-sent-in-Query-clause-err : goal.returns-in_err-sent-in-Query-clause-err
returns-in_err-sent-in-Query-clause-err c =
    let s = c.args.self.now in
    let m = c.in-Some-ToReplica in
    let is : Some (ToReplica m.number m.request) ≡ message_of s.pool.flights c.args.flight = ap Some (sym m.field-0-is) ∙ m.ensures in
    let h : MayHandle s m.number m.request = served s c.requires.number m.number c.requires.request m.request (same_Some _ _ (is ∙ c.requires.is)) c.requires.handles in
    let p = err_from_is_err_and c.from_residual-in_err-sent-in-Query.result c.from_residual-in_err-sent-in-Query.ensures.1 in
    let same : c.handle.new.self ≡ s.nodes =
    c.in_ok-reply-in-Query.ensures.after h.node h.is ∙ told_same s.nodes m.number h.node m.request c.in-Query.op c.in-Query.key c.in-Query.is h.is in
    rw p.1 (c.in_err-sent-in-Query.ensures.err ∙ ap (λ (n : List Node). let x : System = record s { nodes = n } in x) same)

pub adopt-requires : goal.adopt-requires
adopt-requires c =
    let s = c.args.self.now in
    let m = c.in-Some-ToReplica in
    let is : Some (ToReplica m.number m.request) ≡ message_of s.pool.flights c.args.flight = ap Some (sym m.field-0-is) ∙ m.ensures in
    let h : MayHandle s m.number m.request = served s c.requires.number m.number c.requires.request m.request (same_Some _ _ (is ∙ c.requires.is)) c.requires.handles in
    let message : Message = ToClient c.in-Some.client (Kept c.in-Put.op m.number) in
    let after : System = record s { pool = with_sent s.pool message } in
    let may : MayAdopt after c.args.flight = record {
      number = m.number;
      request = m.request;
      is = still_there s.pool message (ToReplica m.number m.request) c.args.flight c.post-in-Put.ensures.bag (sym is);
      within = slice_get_within s.nodes m.number h.node h.is;
    } in
    subst (λ (a : System). MayAdopt a c.args.flight) (sym c.in_ok-sent-in-Put.ensures.ok) may

pub returns-then-is_err-clause-err : goal.returns-then-is_err-clause-err
returns-then-is_err-clause-err c =
    let s = c.args.self.now in
    let m = c.in-Some-ToReplica in
    let message : Message = ToClient c.in-Some.client (Kept c.in-Put.op m.number) in
    let after = c.adopt.new.self in
    let failed = sym c.if-is_err.ensures.value in
    let sent : after ≡ record s { pool = with_sent s.pool message } = on_err c.adopt.result failed c.adopt.ensures.err ∙ c.in_ok-sent-in-Put.ensures.ok in
    let once : copies_of after.pool.flights (after.pool.sent - 1) ≡ 1 =
    subst (λ (a : System). copies_of a.pool.flights (a.pool.sent - 1) ≡ 1) (sym sent) (sent_once s.pool message) in
    let found : IsSome c.unsend.result = c.unsend.ensures.some.1 once in
    let pool : c.unsend.new.self ≡ without_last after.pool = on_some c.unsend.result found c.unsend.ensures.after in
    unsent_system s after message after.nodes c.unsend.new.self sent refl pool c.post-in-Put.ensures.bag

pub returns-clause-effect : goal.returns-clause-effect
returns-clause-effect c =
    let s = c.args.self.now in
    let m = c.in-Some-ToReplica in
    let is : Some (ToReplica m.number m.request) ≡ message_of s.pool.flights c.args.flight = ap Some (sym m.field-0-is) ∙ m.ensures in
    let what : effect_of s (step.Deliver c.args.flight) ≡ Some (Answered s.pool.sent) = ap (arrival_effect s) (sym is) in
    elim c.match-request.branch [
      | in-Query+in_ok-reply-in-Query+in_ok-sent-in-Query w ↦ what ∙ ap (λ n. Some (Answered n)) (sym (w.sent-is ∙ w.in_ok-sent-in-Query.ensures.number))
      | in-Put+in_ok-sent-in-Put+else-is_err w ↦ what ∙ ap (λ n. Some (Answered n)) (sym (w.sent-is ∙ w.in_ok-sent-in-Put.ensures.number))
    ]

pub returns-clause-ok : goal.returns-clause-ok
returns-clause-ok c = λ message there.
    let s = c.args.self.now in
    let m = c.in-Some-ToReplica in
    let is : Some (ToReplica m.number m.request) ≡ message_of s.pool.flights c.args.flight = ap Some (sym m.field-0-is) ∙ m.ensures in
    let h : MayHandle s m.number m.request = served s c.requires.number m.number c.requires.request m.request (same_Some _ _ (is ∙ c.requires.is)) c.requires.handles in
    let made : Some c.in-Some.client ≡ caller_of s.history.rows (op_of m.request) = sym c.in-Some.is ∙ c.caller.ensures ∙ ap (caller_of s.history.rows) c.op_of.ensures in
    let this : ToReplica m.number m.request ≡ message = same_Some _ _ (is ∙ there) in
    elim c.match-request.branch [
      | in-Query+in_ok-reply-in-Query+in_ok-sent-in-Query w ↦
          let reply = w.in_ok-reply-in-Query.reply in
          w.self-is ∙ w.in_ok-sent-in-Query.ensures.ok
          ∙ ap (λ (n : List Node). let x : System = record s { nodes = n; pool = with_sent s.pool (ToClient c.in-Some.client reply) } in x) (w.in_ok-reply-in-Query.ensures.after h.node h.is)
          ∙ handled s m.number m.request h c.in-Some.client reply made (w.in_ok-reply-in-Query.ensures.answer h.node h.is)
          ∙ ap (arrive s) this
      | in-Put+in_ok-sent-in-Put+else-is_err w ↦
          let kept = Kept w.in-Put.op m.number in
          let sent : Message = ToClient c.in-Some.client kept in
          let after : System = record s { pool = with_sent s.pool sent } in
          let posted : w.post-in-Put.new.self ≡ after = w.in_ok-sent-in-Put.ensures.ok in
          let still : IsMessageOf w.post-in-Put.new.self.pool.flights c.args.flight (ToReplica m.number m.request) =
          subst (λ (a : System). IsMessageOf a.pool.flights c.args.flight (ToReplica m.number m.request)) (sym posted)
          (still_there s.pool sent (ToReplica m.number m.request) c.args.flight w.post-in-Put.ensures.bag (sym is)) in
          w.self-is
          ∙ on_ok w.adopt.result (sym w.if-is_err.ensures.value) w.adopt.ensures.ok m.number m.request h.node still (rw posted h.is)
          ∙ ap (λ (a : System). with_replica a m.number h.node (replica_after h.node.replica m.request)) posted
          ∙ handled s m.number m.request h c.in-Some.client kept made
          (kept_is h.node.replica m.number m.request w.in-Put.op w.in-Put.key w.in-Put.tag w.in-Put.value w.in-Put.is h.numbered)
          ∙ ap (arrive s) this
    ]
