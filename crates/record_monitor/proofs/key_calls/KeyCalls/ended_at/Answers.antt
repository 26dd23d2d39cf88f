use Rattle.std.proofs.Common.{◌≡◌, Option, Some, IfSome, IsSome, find, ap, sym, ◌∙◌, subst}
use Rattle.record_monitor.specs.declared.told.ToldCall.{ToldCall}
use Rattle.record_monitor.specs.KeyCalls.{is_ended_at}
use Rattle.record_monitor.specs.Told.{IsToldCall}
use Rattle.record_monitor.proofs.AnsweredCalls.{any_found, found_ended}
use Rattle.record_monitor.proofs.key_calls.KeyCalls.ended_at.Goals as goal

pub returns-clause-told : goal.returns-clause-told
returns-clause-told c = λ rows key k.
    let calls = c.args.self.now.answered.items in
    let is : c.copied.result ≡ find (is_ended_at c.args.end) calls =
    c.copied.ensures ∙ (c.ended_in.ensures ∙ ap (find (is_ended_at c.args.end)) c.as_slice.ensures.value) in
    subst (λ (o : Option ToldCall). IfSome o (λ call. IsToldCall rows key call × (call.answered ≡ Some c.args.end))) (sym is)
    (found_ended (IsToldCall rows key) c.args.end calls k.answered)

pub returns-clause-there : goal.returns-clause-there
returns-clause-there c = λ there.
    let calls = c.args.self.now.answered.items in
    let is : c.copied.result ≡ find (is_ended_at c.args.end) calls =
    c.copied.ensures ∙ (c.ended_in.ensures ∙ ap (find (is_ended_at c.args.end)) c.as_slice.ensures.value) in
    subst (λ (o : Option ToldCall). IsSome o) (sym is) (any_found (is_ended_at c.args.end) calls there)
