-- A client joins by a pass that had none.
use Rattle.std.proofs.Common.{◌≡◌, ℕ, cond, not, is_none, List, Option, Some, None, sym, ap, ◌∙◌, subst}
use Rattle.std.specs.Prelude.{if◌then◌else◌}
use Rattle.std.specs.FinMap as finite
use Rattle.std.specs.Ordering.{nat_cmp, is_eq}
use Rattle.std.specs.Cmp.{nat_cmp_total, tied_itself}
use Rattle.tag.proofs.Options.{none_some}
use Rattle.client_phases.specs.Clients.{client_of}
use Rattle.client_phases.specs.declared.clients.Client.{Client}
use Rattle.recorder.specs.declared.row.Row.{Row}
use Rattle.recorder.specs.declared.row.Row.TheVariants.{Invoke}
use Rattle.world_steps.specs.Lasting.{Grows, HasJoined}
use Rattle.world_steps.specs.Refusals.{refusal_of}
use Rattle.world_steps.specs.Sound.{At}
use Rattle.world_steps.specs.SoundSystems.{IsSound}
use Rattle.world_steps.specs.declared.refusal.Refusal.TheVariants as refusal
use Rattle.world_steps.specs.declared.step.Step.TheVariants as step
use Rattle.world_steps.specs.declared.system.System.{System}
use Rattle.hall_journal.specs.Halls.{Hall, with_step}
use Rattle.hall_lock.specs.declared.rule.View.{View}
use Rattle.hall_lock.specs.Turns.{AddsOwnRows, Enters, HasEntered, HasNoCall, Receives, guest, seat_in}

-- a name has the client that it was given last
pub there_now : (m : finite.FinMap nat_cmp Client) (name : ℕ) (client : Client)
    → finite.get (finite.insert m name client) name ≡ Some client
there_now m name client = finite.get-insert nat_cmp_total m name client name ∙ ap (λ b. cond b (Some client) (finite.get m name))
    (ap is_eq (tied_itself nat_cmp_total name))

-- a name that joined is refused
taken : (s : System) (name : ℕ) → HasJoined s name → refusal_of s (step.Join name) ≡ None → ⊥
taken s name joined none = none_some (sym none ∙ ap (λ (o : Option Client). if not (is_none o) then Some refusal.ClientTaken else None)
    joined.1)

pub joins_world : (old new : Hall) (name : ℕ) → AddsOwnRows (Some name) old.world new.world → refusal_of old.world (step.Join name) ≡ None
    → new ≡ with_step old (step.Join name) → Enters old.world name new.world
joins_world old new name adds none same = record {
  fresh = λ joined. taken old.world name joined none;
  rows = ap (λ (h : Hall). h.world.history.rows) same;
  names = ap (λ (h : Hall). h.world.members.joined) same;
  joined = (
    client_of name old.world.config.quorums old.world.config.reads,
    ap (λ (h : Hall). finite.get h.world.members.clients name) same ∙ there_now old.world.members.clients name
        (client_of name old.world.config.quorums old.world.config.reads),
  );
  stayed = adds.joined;
  stopped = adds.stopped;
}

pub entered : (v w : View) (old new : Hall) (name : ℕ) → v ≡ guest v.rows → Receives v old w → Enters old.world name new.world
    → (w.client ≡ None) × HasEntered w name new.world
entered v w old new name is received enters = (
  ap (λ (y : View). y.client) received.is ∙ ap (λ (y : View). y.client) is,
  record { old = old.world; held = ap (λ (y : View). y.held) received.is; enters = enters },
)

-- who never joined has no call
no_call : (s : System) (name : ℕ) (rows : List Row) → IsSound s → (HasJoined s name → ⊥) → rows ≡ s.history.rows → HasNoCall name rows
no_call s name rows sound never same place op key action there =
    let found = sound.sound.joined place op name key action (subst (λ l. At l place (Invoke op name key action)) same there) in
    never (_, found.1.is)

pub seat_rows : (v w z : View) (old new : Hall) (name : ℕ) → Receives v old w → IsSound old.world → Enters old.world name new.world
    → z ≡ seat_in name new.world → Grows v.rows z.rows × HasNoCall name z.rows
seat_rows v w z old new name received sound enters is =
    let rows : z.rows ≡ old.world.history.rows = ap (λ (y : View). y.rows) is ∙ enters.rows in
    (subst (Grows v.rows) (sym rows) received.knows.seen, no_call old.world name z.rows sound enters.fresh rows)
