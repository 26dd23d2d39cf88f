-- Short reads whose replies agree.
use Rattle.std.specs.Prelude.{ℕ, ◌≡◌, true, List, [], ◌∷◌, slice_get, take}
use Rattle.std.specs.Option.{option_map_or}
use Rattle.quorum.specs.Quorums.{IsAskQuorum}
use Rattle.replica.specs.Pairs.{no_pair, pair_of}
use Rattle.replica.specs.declared.pairs.Pair.{Pair}
use Rattle.client_phases.specs.Asking.{Asking, asking_with, is_agreed}
use Rattle.client_phases.specs.declared.rules.Rules.{Rules}
use Rattle.client_phases.specs.declared.states.State.TheVariants.{Ask}
use Rattle.world_steps.specs.Moves.{IsClient}
use Rattle.world_steps.specs.declared.nodes.Node.{Node}
use Rattle.world_steps.specs.declared.system.System.{System}
use Rattle.world_settle.specs.Refusing.{IsLeastCount}
use Rattle.world_settle.specs.Settling.{candidates}

-- the pair that a replica has for a key
abbrev pub pair_at : System → ℕ → List ℕ → Pair
pair_at s replica key = option_map_or (λ (node : Node). pair_of node.replica.pairs key) (slice_get
    s.nodes replica) no_pair

-- the asking with the pairs of those replicas counted too
abbrev pub asking_by : System → Asking → List ℕ → Asking
asking_by s asking [] = asking
asking_by s asking (replica ∷ replicas) =
    asking_by s (asking_with asking replica (pair_at s replica asking.call.key)) replicas

-- so many replicas a short read still asks; with their replies all that it counts carries one tag
-- and comes from a put quorum
pub record RepliesAgree (s : System) (name a : ℕ) : Type 0 where
  pub rules : Rules
  pub asking : Asking
  pub is : IsClient s name (record { rules = rules; state = Ask asking })
  pub asks : IsLeastCount (IsAskQuorum s.config.quorums) asking.counted
      (candidates s asking.counted) a
  pub agreed : is_agreed rules (asking_by s asking (take a (candidates s asking.counted))) ≡ true
