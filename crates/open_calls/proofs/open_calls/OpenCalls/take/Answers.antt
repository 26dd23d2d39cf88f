use Rattle.std.proofs.Common.{◌≡◌, Some, None, refl, sym, ◌∙◌}
use Rattle.open_calls.specs.Numbered.{value_in}
use Rattle.open_calls.proofs.KeptCalls.{kept_same, kept_taken, nothing_gone}
use Rattle.open_calls.proofs.Mapped.{get_map}
use Rattle.open_calls.proofs.Views.{view_answered}
use Rattle.open_calls.proofs.open_calls.OpenCalls.take.Goals as goal

pub remove-found-requires : goal.remove-found-requires
remove-found-requires g c = record { fit = c.self.invariant.calls_fit }

pub remove-requires : goal.remove-requires
remove-requires g c = record { fit = c.self.invariant.clients_fit }

pub invariant_of-self : goal.invariant_of-self
invariant_of-self g c =
    let i = c.self.inside in
    let call = c.in-Some.call in
    let is : value_in i.calls c.args.op.0 ≡ Some call = sym (rw c.from.ensures at c.remove-found.ensures.value) ∙ c.in-Some.is in
    rw c.saturating_sub-self-inside.ensures
    (kept_taken i.begun i.count i.calls i.clients c.self.invariant c.args.op.0 call c.remove-found.new.self c.remove.new.self is c.remove-found.ensures.fit c.remove.ensures.fit
    (rw c.from.ensures at c.remove-found.ensures.gone) (rw (c.from-in-Some.ensures, c.get.ensures.name) at c.remove.ensures.gone))

pub invariant_of-self-in_default : goal.invariant_of-self-in_default
invariant_of-self-in_default g c =
    let i = c.self.inside in
    let none : value_in i.calls c.args.op.0 ≡ None = sym (rw c.from.ensures at c.remove-found.ensures.value) ∙ c.in_default.is in
    kept_same i.begun i.count i.calls i.clients c.self.invariant c.remove-found.new.self i.clients c.remove-found.ensures.fit c.self.invariant.clients_fit
    (nothing_gone (value_in i.calls) (value_in c.remove-found.new.self) c.args.op.0 none (rw c.from.ensures at c.remove-found.ensures.gone)) (λ q. refl)

pub returns-in-Some-clause-given : goal.returns-in-Some-clause-given
returns-in-Some-clause-given g c = rw (← c.self.view_is) ((rw c.from.ensures at c.remove-found.ensures.value) ∙ sym (get_map c.self.inside.calls c.self.invariant.calls_fit c.args.op.0))

pub returns-in-Some-clause-left : goal.returns-in-Some-clause-left
returns-in-Some-clause-left g c = rw (← c.self.view_is) (view_answered c.self.inside.calls c.remove-found.new.self c.self.invariant.calls_fit c.remove-found.ensures.fit c.self.inside.begun c.args.op.0 (rw c.from.ensures at c.remove-found.ensures.gone))

pub returns-in_default-clause-given : goal.returns-in_default-clause-given
returns-in_default-clause-given g c = rw (← c.self.view_is) ((rw c.from.ensures at c.remove-found.ensures.value) ∙ sym (get_map c.self.inside.calls c.self.invariant.calls_fit c.args.op.0))

pub returns-in_default-clause-left : goal.returns-in_default-clause-left
returns-in_default-clause-left g c = rw (← c.self.view_is) (view_answered c.self.inside.calls c.remove-found.new.self c.self.invariant.calls_fit c.remove-found.ensures.fit c.self.inside.begun c.args.op.0 (rw c.from.ensures at c.remove-found.ensures.gone))
