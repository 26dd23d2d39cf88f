use Rattle.std.proofs.Common.{◌≡◌, None, refl}
use Rattle.open_calls.specs.Numbered.{value_in}
use Rattle.open_calls.specs.Open.{begun_call}
use Rattle.open_calls.proofs.Indexing.{client_back, no_number}
use Rattle.open_calls.proofs.KeptCalls.{kept_begun, kept_same, none_next}
use Rattle.open_calls.proofs.Views.{not_of, view_begun, view_same}
use Rattle.open_calls.proofs.open_calls.OpenCalls.add.Goals as goal

pub insert-requires-clause-fit : goal.insert-requires-clause-fit
insert-requires-clause-fit g c = c.self.invariant.clients_fit

pub insert-requires-clause-new : goal.insert-requires-clause-new
insert-requires-clause-new g c =
    let i = c.self.inside in
    let kept = c.self.invariant in
    let idle = rw (← c.self.view_is) at c.requires.idle in
    rw (c.from-name.ensures, c.get.ensures.name)
    (no_number i.begun (value_in i.calls) (value_in i.clients) kept.indexed c.args.client (not_of i.begun i.calls kept.calls_fit (value_in i.clients) kept.indexed c.args.client idle))

pub invariant_of-self : goal.invariant_of-self
invariant_of-self g c =
    let i = c.self.inside in
    kept_same i.begun i.count i.calls i.clients c.self.invariant i.calls c.insert.new.self c.self.invariant.calls_fit c.insert.ensures.fit (λ q. refl) c.in_err-insert.ensures.err

pub insert-requires-2-clause-fit : goal.insert-requires-2-clause-fit
insert-requires-2-clause-fit g c = c.self.invariant.calls_fit

pub insert-requires-2-clause-new : goal.insert-requires-2-clause-new
insert-requires-2-clause-new g c =
    let i = c.self.inside in
    let next : c.args.op.0 ≡ i.begun = rw (← c.self.view_is) at c.requires.next in
    rw c.from.ensures (none_next i.begun i.count i.calls i.clients c.self.invariant c.args.op.0 next)

pub invariant_of-self-in-Ok : goal.invariant_of-self-in-Ok
invariant_of-self-in-Ok g c =
    let i = c.self.inside in
    let kept = c.self.invariant in
    let next : c.args.op.0 ≡ i.begun = rw (← c.self.view_is) at c.requires.next in
    let idle = rw (← c.self.view_is) at c.requires.idle in
    let none : value_in i.clients c.args.client ≡ None = no_number i.begun (value_in i.calls) (value_in i.clients) kept.indexed c.args.client (not_of i.begun i.calls kept.calls_fit (value_in i.clients) kept.indexed c.args.client idle) in
    kept_begun i.begun i.count i.calls i.clients kept c.args.op.0 (begun_call c.args.client c.args.is_write c.args.payload) c.insert-2.new.self c.insert.new.self next none c.insert-2.ensures.fit c.insert.ensures.fit
    (rw c.from.ensures at c.in-Ok.ensures.ok) (rw (c.from-name.ensures, c.get.ensures.name) at c.in_ok-insert.ensures.ok)

pub remove-requires : goal.remove-requires
remove-requires g c = record { fit = c.insert.ensures.fit }

pub invariant_of-self-in-Err : goal.invariant_of-self-in-Err
invariant_of-self-in-Err g c =
    let i = c.self.inside in
    let kept = c.self.invariant in
    let idle = rw (← c.self.view_is) at c.requires.idle in
    let none : value_in i.clients c.args.client ≡ None = no_number i.begun (value_in i.calls) (value_in i.clients) kept.indexed c.args.client (not_of i.begun i.calls kept.calls_fit (value_in i.clients) kept.indexed c.args.client idle) in
    kept_same i.begun i.count i.calls i.clients kept c.insert-2.new.self c.remove.new.self c.insert-2.ensures.fit c.remove.ensures.fit c.in-Err.ensures.err
    (client_back i.begun (value_in i.calls) (value_in i.clients) kept.indexed c.args.client c.args.op.0 none (value_in c.insert.new.self) (value_in c.remove.new.self)
    (rw (c.from-name.ensures, c.get.ensures.name) at c.in_ok-insert.ensures.ok) (rw (c.from-name.ensures, c.get.ensures.name) at c.remove.ensures.gone))

pub returns-in-Ok-clause-ok : goal.returns-in-Ok-clause-ok
returns-in-Ok-clause-ok g c =
    let i = c.self.inside in
    let next : c.args.op.0 ≡ i.begun = rw (← c.self.view_is) at c.requires.next in
    rw (← c.self.view_is) (view_begun i.calls c.insert-2.new.self c.self.invariant.calls_fit c.insert-2.ensures.fit i.begun c.args.op.0 (begun_call c.args.client c.args.is_write c.args.payload) next (rw c.from.ensures at c.in-Ok.ensures.ok))

pub returns-in-Err-clause-err : goal.returns-in-Err-clause-err
returns-in-Err-clause-err g c =
    let i = c.self.inside in
    rw (← c.self.view_is) (view_same i.calls c.insert-2.new.self c.self.invariant.calls_fit c.insert-2.ensures.fit i.begun c.in-Err.ensures.err)
