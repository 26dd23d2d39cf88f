use Rattle.std.proofs.Common.{◌≡◌, Some, sym, subst, ◌∙◌, ap}
use Rattle.std.proofs.lemmas.Option.{same_Some}
use Rattle.replica.specs.declared.replies.Reply.{Reply}
use Rattle.network.specs.Flights.{message_of}
use Rattle.network.specs.declared.messages.Message.TheVariants.{ToClient}
use Rattle.world_steps.specs.Moves.{MayArrive, MayHear}
use Rattle.world_steps.proofs.system.System.arrive.Goals as goal

pub hear-requires : goal.hear-requires
hear-requires c =
    let s = c.args.self.now in
    let m = c.in-Some-ToClient in
    let is : Some (ToClient m.name m.reply) ≡ message_of s.pool.flights c.args.flight = ap Some (sym m.field-0-is) ∙ m.ensures in
    let hears : MayHear s m.name m.reply = subst (MayArrive s) (same_Some _ _ (sym c.requires.is ∙ sym is)) c.requires.arrives in
    subst (λ (r : Reply). MayHear s m.name r) (sym c.in_ok-reply-in-Some-ToClient.ensures) hears
