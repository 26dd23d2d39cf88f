use Rattle.std.proofs.Common.{◌≡◌, ap, sym, subst, ◌∙◌}
use Rattle.std.specs.Option.{option_copied}
use Rattle.std.proofs.lemmas.Option.{same_Some}
use Rattle.client_phases.specs.Clients.{reply_result}
use Rattle.client_phases.specs.declared.clients.Client.{Client}
use Rattle.world_steps.specs.Systems.{answered_op}
use Rattle.world_steps.specs.Moves.{MayNote}
use Rattle.world_steps.proofs.system.System.hear.Goals as goal

-- the client that was found is the one that may take the reply
pub note_outcome-requires : goal.note_outcome-requires
note_outcome-requires c =
    let same : c.requires.client ≡ c.in-Some.client.now = same_Some _ _ (sym c.requires.is ∙ sym c.get.ensures ∙ ap option_copied c.in-Some.is) in
    rw (c.answered_op.ensures, c.foresee-taken.ensures) (subst (λ (k : Client). MayNote c.args.self.now (answered_op c.args.reply) (reply_result k c.args.reply)) same c.requires.notes)
