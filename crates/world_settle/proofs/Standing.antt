-- What a client's phase says of its pending call.
use Rattle.std.proofs.Common.{◌≡◌, ℕ, ◌+◌, ◌≤◌, Option, None, Some, option_map, refl, sym, ap, subst, arith}
use Rattle.std.specs.Prelude.{option_and_then, IsSome}
use Rattle.std.specs.FinMap as map
use Rattle.std.specs.FinSet as finite
use Rattle.std.specs.Option.{option_map_or}
use Rattle.quorum.specs.Sets.{Replicas}
use Rattle.quorum.specs.Quorums.{votes_of}
use Rattle.client_phases.specs.Clients.{counted_by, pending_of, phase_of}
use Rattle.client_phases.specs.declared.clients.Client.{Client}
use Rattle.client_phases.specs.declared.outcomes.Phase.{Phase}
use Rattle.client_phases.specs.declared.outcomes.Phase.TheVariants as phase
use Rattle.client_phases.specs.declared.rules.Rules.{Rules}
use Rattle.client_phases.specs.declared.states.State.{State}
use Rattle.client_phases.specs.declared.states.State.TheVariants.{Idle, Ask, Put, Ready, Stopped}
use Rattle.world_steps.specs.declared.system.System.{System}
use Rattle.world_steps.specs.Refusals.{phase_at}
use Rattle.world_settle.specs.Settling.{candidates, counted_at}
use Rattle.world_settle.specs.Refusing.{IsLeastCount, HasPendingCall, NeedsAt}

-- so many candidates bring the set to so many votes
abbrev pub IsLeastFor : System → ℕ → Replicas → ℕ → Type 0
IsLeastFor s votes set count = IsLeastCount (λ quorum. votes ≤ votes_of s.config.quorums.votes quorum) set (candidates s set) count

-- the pending call needs so many replicas
abbrev pub NeedsInAll : System → ℕ → ℕ → Type 0
NeedsInAll s name count = HasPendingCall s name × (a : ℕ) × (b : ℕ) × NeedsAt s name a b × (count ≡ a + b) × (count ≤ 30)

module _ (s : System) (name : ℕ) where
  pending : (client : Client) → map.get s.members.clients name ≡ Some client → IsSome (pending_of client) → HasPendingCall s name
  pending client is some = subst IsSome (sym (ap (option_and_then pending_of) is)) some

  puts_by : (rules : Rules) (state : State) (counted : Replicas) (count : ℕ) → map.get s.members.clients name ≡ Some (record { rules = rules; state = state })
      → phase.Put ≡ phase_of (record { rules = rules; state = state }) → counted ≡ counted_by (record { rules = rules; state = state })
      → IsLeastFor s s.config.quorums.put counted count → count ≤ 15 → NeedsInAll s name count
  puts_by rules (Put chosen members) counted count is at same least few = (
    pending (record { rules = rules; state = Put chosen members }) is refl,
    0,
    count,
    record { client = record { rules = rules; state = Put chosen members }; is = is; needs = (refl, subst (λ x. IsLeastFor s s.config.quorums.put x count) same least) },
    omega arith,
    omega arith,
  )
  puts_by rules Idle counted count is at same least few = absurd cc
  puts_by rules (Ask asking) counted count is at same least few = absurd cc
  puts_by rules (Ready chosen) counted count is at same least few = absurd cc
  puts_by rules Stopped counted count is at same least few = absurd cc

  -- who stands in a phase joined
  record Stands (at : Phase) (counted : Replicas) : Type 0 where
    pub client : Client
    pub is : map.get s.members.clients name ≡ Some client
    pub stands : at ≡ phase_of client
    pub members : counted ≡ counted_by client

  stands_by : (found : Option Client) (at : Phase) (counted : Replicas) → map.get s.members.clients name ≡ found → Some at ≡ option_map phase_of found → counted ≡ option_map_or counted_by found finite.empty → Stands at counted
  stands_by None at counted is e same = absurd cc
  stands_by (Some client) at counted is e same = record { client = client; is = is; stands = cc; members = same }

  pub puts_needed : (counted : Replicas) (count : ℕ) → Some phase.Put ≡ phase_at s name → counted ≡ counted_at s name → IsLeastFor s s.config.quorums.put counted count → count ≤ 15 → NeedsInAll s name count
  puts_needed counted count at same least few =
      let h = stands_by (map.get s.members.clients name) phase.Put counted refl at same in
      puts_by h.client.rules h.client.state counted count h.is h.stands h.members least few
