-- A client that takes a reply keeps the system sound.
use Rattle.std.proofs.Common.{◌≡◌, ℕ, ◌≤◌, Option, None, Some, refl, sym, ◌∙◌, ap, subst, arith}
use Rattle.std.specs.FinMap as finite
use Rattle.tag.specs.Tags.{Tag}
use Rattle.tag.specs.declared.numbers.OpId.{OpId}
use Rattle.quorum.specs.Quorums.{IsLawful}
use Rattle.replica.specs.declared.replies.Reply.{Reply}
use Rattle.replica.specs.declared.replies.Reply.TheVariants.{Held, Kept}
use Rattle.client_phases.specs.Clients.{client_after, reply_result}
use Rattle.client_phases.specs.declared.clients.Client.{Client}
use Rattle.client_phases.specs.declared.outcomes.Taken.{Taken}
use Rattle.client_phases.specs.declared.outcomes.Taken.TheVariants.{Stale, Counted, Noted, Agreed}
use Rattle.client_phases.specs.declared.outcomes.Taken.TheVariants as outcome
use Rattle.client_phases.specs.declared.rules.Rules.{Rules}
use Rattle.network.specs.declared.messages.Message.TheVariants.{ToClient}
use Rattle.recorder.specs.Histories.{Recorded, call_count}
use Rattle.recorder.specs.declared.row.Row.TheVariants.{Note}
use Rattle.world_steps.specs.Moves.{IsClient}
use Rattle.world_steps.specs.Sound.{Sound}
use Rattle.world_steps.specs.SoundSystems.{Flies, IsIn, IsSound, IsWaiting, held_in}
use Rattle.world_steps.specs.Systems.{answered_op, take, with_note}
use Rattle.world_steps.specs.declared.system.System.{System}
use Rattle.world_steps.proofs.Heard.{op_in, rows_after, hearing}
use Rattle.world_steps.proofs.Named.{named_insert}
use Rattle.world_steps.proofs.RowLaws.{count_push}
use Rattle.world_steps.proofs.ClientSound.{turned_system, became_insert, there_insert}
use Rattle.world_steps.proofs.Waiting.{heard_waits}

-- ---- the record after a reply was taken
same_ops : (reply : Reply) → op_in reply ≡ answered_op reply
same_ops (Held op replica tag value) = refl
same_ops (Kept op replica) = refl

noted_rows : (history : Recorded) (op : OpId) (outcome : Taken) → rows_after history.rows op outcome ≡ (with_note history op outcome).rows
noted_rows history op (Noted tag) = refl
noted_rows history op (Agreed tag) = refl
noted_rows history op Stale = refl
noted_rows history op Counted = refl
noted_rows history op outcome.Ready = refl

noted_limit : (history : Recorded) (op : OpId) (outcome : Taken) → (with_note history op outcome).limit ≡ history.limit
noted_limit history op (Noted tag) = refl
noted_limit history op (Agreed tag) = refl
noted_limit history op Stale = refl
noted_limit history op Counted = refl
noted_limit history op outcome.Ready = refl

one_note : (history : Recorded) (op : OpId) (tag : Tag) → call_count (with_note history op (Noted tag)).rows ≡ call_count history.rows
one_note history op tag = let counted = count_push history.rows (Note op tag) in omega (arith, counted)

noted_count : (history : Recorded) (op : OpId) (outcome : Taken) → call_count (with_note history op outcome).rows ≡ call_count history.rows
noted_count history op (Noted tag) = one_note history op tag
noted_count history op (Agreed tag) = one_note history op tag
noted_count history op Stale = refl
noted_count history op Counted = refl
noted_count history op outcome.Ready = refl

-- ---- a client takes a reply that flies
module _ (s : System) (sound : IsSound s) (name : ℕ) (reply : Reply) (flies : Flies s.pool.flights (ToClient name reply)) where
  taken_sound : (client : Client) → IsClient s name client → IsSound (take s name reply (Some client))
  taken_sound client is =
      let new : Client = client_after client reply in
      let history : Recorded = with_note s.history (answered_op reply) (reply_result client reply) in
      let clients = finite.insert s.members.clients name new in
      let ruled = sound.ruled name client is in
      let waits : IsWaiting s.config.quorums new.state =
      subst (λ q. IsWaiting q new.state) (ap (λ (r : Rules). r.quorums) ruled)
      (heard_waits client.rules (subst IsLawful (sym (ap (λ (r : Rules). r.quorums) ruled)) sound.sound.lawful) client.state reply (subst (λ q. IsWaiting q client.state) (sym (ap (λ (r : Rules). r.quorums) ruled)) (sound.waiting name client is))) in
      let limit : history.limit ≡ s.history.limit = noted_limit s.history (answered_op reply) (reply_result client reply) in
      let counted : call_count history.rows ≡ call_count s.history.rows = noted_count s.history (answered_op reply) (reply_result client reply) in
      let calls : call_count s.history.rows ≤ s.history.limit = sound.calls in
      let rows : rows_after s.history.rows (op_in reply) (reply_result client reply) ≡ history.rows =
      ap (λ o. rows_after s.history.rows o (reply_result client reply)) (same_ops reply) ∙ noted_rows s.history (answered_op reply) (reply_result client reply) in
      turned_system s sound s.members.joined name new history (named_insert s.members sound.named name client new is) ruled waits (omega (arith, counted, calls, limit)) limit
      (subst (λ r. Sound s.config.quorums r (held_in s.nodes) (Flies s.pool.flights) (IsIn clients)) rows
      (hearing s.config.quorums s.history.rows (held_in s.nodes) (Flies s.pool.flights) (IsIn s.members.clients) (IsIn clients) name name client.rules client.state reply
      (ap (λ (r : Rules). r.name) ruled) (ap (λ (r : Rules). r.quorums) ruled) sound.sound (record { rules = client.rules; is = is }) flies
      (became_insert s.members.clients name new) (there_insert s.members.clients name new)))

  taken_found : (found : Option Client) → finite.get s.members.clients name ≡ found → IsSound (take s name reply found)
  taken_found None is = sound
  taken_found (Some client) is = taken_sound client is

  pub take_sound : IsSound (take s name reply (finite.get s.members.clients name))
  take_sound = taken_found (finite.get s.members.clients name) refl
