use Rattle.std.proofs.Common.{◌≡◌, inl, inr, Some, None, is_some, find, ap, sym, ◌∙◌}
use Rattle.std.proofs.lemmas.Bool.{false≢true}
use Rattle.std.specs.Option.{option_copied}
use Rattle.record_monitor.specs.KeyCalls.{is_begun_at}
use Rattle.record_monitor.specs.Told.{IsToldCall}
use Rattle.record_monitor.proofs.AnsweredCalls.{any_found, found_begun}
use Rattle.record_monitor.proofs.key_calls.KeyCalls.begun_at.Goals as goal

pub returns-in-Some-clause-told : goal.returns-in-Some-clause-told
returns-in-Some-clause-told c = λ rows key k.
    let calls = c.args.self.now.answered.items in
    let at : find (is_begun_at c.args.begin) calls ≡ Some c.in-Some.call.now =
    ap (find (is_begun_at c.args.begin)) (sym c.as_slice.ensures.value) ∙ (sym c.begun_in.ensures ∙ ap option_copied c.in-Some.is) in
    found_begun (IsToldCall rows key) c.args.begin calls k.answered c.in-Some.call.now at

pub returns-in-None-clause-there : goal.returns-in-None-clause-there
returns-in-None-clause-there c = λ there.
    let calls = c.args.self.now.answered.items in
    let none : find (is_begun_at c.args.begin) calls ≡ None =
    ap (find (is_begun_at c.args.begin)) (sym c.as_slice.ensures.value) ∙ (sym c.begun_in.ensures ∙ ap option_copied c.in-None.is) in
    elim there [
      | inl a ↦ absurd (false≢true (sym (ap is_some none) ∙ any_found (is_begun_at c.args.begin) calls a))
      | inr w ↦ ap is_some c.get.ensures ∙ w
    ]
