use Rattle.std.proofs.Common.{ap, sym, ◌∙◌, subst}
use Rattle.std.proofs.lemmas.Result.{on_ok_weaker}
use Rattle.tag.specs.declared.actions.Action.{Action}
use Rattle.tag.specs.declared.actions.Action.TheVariants.{Write}
use Rattle.monitored_key.specs.Held.{state_of}
use Rattle.record_monitor.specs.Followed.{FollowsFirst}
use Rattle.record_monitor.proofs.Beginning.{first_write_follows}
use Rattle.record_monitor.proofs.watched.begin_call.Goals as goal

pub returns-in-None-clause-follows : goal.returns-in-None-clause-follows
returns-in-None-clause-follows c =
    on_ok_weaker c.begin_read.result (λ h before after source row call k b o number asks.
    h before after source row call k b o (asks ∙ c.in-None.ensures.read)) c.begin_read.ensures.follows

pub returns-in-Some-clause-follows : goal.returns-in-Some-clause-follows
returns-in-Some-clause-follows c =
    on_ok_weaker c.begin_write.result (λ h before after source row call k b o number asks.
    h before after source row call k b o number (asks ∙ (c.in-Some.ensures.write ∙ ap Write (sym c.as_str.ensures.text))))
    c.begin_write.ensures.follows

pub returns-in-Some-clause-first : goal.returns-in-Some-clause-first
returns-in-Some-clause-first c =
    on_ok_weaker c.begin_write.result (λ h nothing.
    subst (λ (a : Action). FollowsFirst (state_of c.begin_write.new.self) c.args.op.0 a c.args.place)
    (sym (c.in-Some.ensures.write ∙ ap Write (sym c.as_str.ensures.text)))
    (first_write_follows c.args.state.now c.begin_write.new.self c.args.op.0 c.args.place c.as_str.result.now h nothing))
    c.begin_write.ensures.held
