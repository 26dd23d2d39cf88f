use Rattle.std.proofs.Common.{◌≡◌, sym, ◌∙◌, ap, Some, Option}
use Rattle.network.specs.Flights.{message_of}
use Rattle.network.specs.declared.messages.Message.{Message}
use Rattle.network.specs.declared.messages.Message.TheVariants.{ToReplica}
use Rattle.world_steps.specs.Refusals.{first_of, arrival_refusals}
use Rattle.world_steps.proofs.system.System.deliver_refusal.Goals as goal

pub returns-in-Some-ToReplica : goal.returns-in-Some-ToReplica
returns-in-Some-ToReplica c =
    let s = c.args.self.now in
    let m = c.in-Some-ToReplica in
    let found : Some m.field-0.now ≡ message_of s.pool.flights c.args.flight = m.ensures in
    let is : Some (ToReplica m.number m.field-0-1) ≡ message_of s.pool.flights c.args.flight = ap Some (sym m.field-0-is) ∙ found in
    c.request_refusal.ensures m.field-0-1 ∙ ap (λ (x : Option Message). first_of (arrival_refusals s x)) is
