-- When a pending call can be completed.
use Rattle.std.specs.Prelude.{ℕ, ◌≡◌, ◌+◌, ◌*◌, ◌<◌, ◌≤◌, max, List, Option, None, IsSome, take}
use Rattle.std.specs.Prelude.{option_and_then}
use Rattle.std.specs.FinSet as finite
use Rattle.std.specs.FinMap as map
use Rattle.tag.specs.declared.numbers.OpId.{OpId}
use Rattle.quorum.specs.Sets.{Replicas}
use Rattle.quorum.specs.Quorums.{IsAskQuorum, IsPutQuorum, votes_of}
use Rattle.client_phases.specs.Clients.{pending_of}
use Rattle.client_phases.specs.declared.clients.Client.{Client}
use Rattle.client_phases.specs.declared.states.State.{State}
use Rattle.client_phases.specs.declared.states.State.TheVariants.{Ask, Put, Ready}
use Rattle.world_steps.specs.Moves.{IsClient}
use Rattle.world_steps.specs.declared.system.System.{System}
use Rattle.world_settle.specs.Settling.{candidates, with_all}
use Rattle.world_settle.specs.declared.errors.SettleError.{SettleError}
use Rattle.world_settle.specs.declared.errors.SettleError.TheVariants as error

-- the least number of candidates that make the set a quorum
pub record IsLeastCount (IsQuorum : Replicas → Type 0) (set : Replicas) (candidates : List ℕ)
    (count : ℕ) : Type 0 where
  pub enough : IsQuorum (with_all set (take count candidates))
  pub least : (fewer : ℕ) → fewer < count → IsQuorum (with_all set (take fewer candidates)) → ⊥

module _ (s : System) where
  -- ---- a majority

  -- the replicas that are up
  abbrev pub replicas_up : Replicas
  replicas_up = with_all finite.empty (candidates s finite.empty)

  -- the replicas that are up have together at least the votes of the greater quorum
  abbrev pub HasMajority : Type 0
  HasMajority =
      max s.config.quorums.ask s.config.quorums.put ≤ votes_of s.config.quorums.votes replicas_up

  -- they have together fewer votes
  abbrev pub HasNoMajority : Type 0
  HasNoMajority =
      votes_of s.config.quorums.votes replicas_up < max s.config.quorums.ask s.config.quorums.put

  -- ---- a pending call

  -- the client's pending call; none if nobody of that name joined, or the client is idle or stopped
  abbrev pub pending_at : ℕ → Option OpId
  pending_at name = option_and_then pending_of (map.get s.members.clients name)

  -- the client has a pending call
  abbrev pub HasPendingCall : ℕ → Type 0
  HasPendingCall name = IsSome (pending_at name)

  -- the client has no pending call
  abbrev pub HasNoPendingCall : ℕ → Type 0
  HasNoPendingCall name = pending_at name ≡ None

  -- ---- room

  -- a call in that state still has to hear a replicas in its asking phase, and b that keep its pair
  abbrev pub Needs : State → ℕ → ℕ → Type 0
  Needs (Ask asking) a b =
      IsLeastCount (IsAskQuorum s.config.quorums) asking.counted (candidates s asking.counted) a
      × IsLeastCount (IsPutQuorum s.config.quorums) finite.empty (candidates s finite.empty) b
  Needs (Put chosen counted) a b =
      (a ≡ 0) × IsLeastCount (IsPutQuorum s.config.quorums) counted (candidates s counted) b
  Needs (Ready chosen) a b = (a ≡ 0) × (b ≡ 0)
  Needs state a b = ⊥

  -- so many replicas the pending call of the client still needs, in its two phases
  pub record NeedsAt (name a b : ℕ) : Type 0 where
    pub client : Client
    pub is : IsClient s name client
    pub needs : Needs client.state a b

  -- two messages for each replica that is needed may still be sent
  pub record HasRoom (name : ℕ) : Type 0 where
    pub asked : ℕ
    pub kept : ℕ
    pub needs : NeedsAt name asked kept
    pub left : s.pool.sent + 2 * (asked + kept) ≤ s.pool.limit

  -- fewer messages than that may still be sent
  pub record HasNoRoom (name : ℕ) : Type 0 where
    pub asked : ℕ
    pub kept : ℕ
    pub needs : NeedsAt name asked kept
    pub left : s.pool.limit < s.pool.sent + 2 * (asked + kept)

  -- ---- all of it

  -- the call can be completed
  pub record MaySettle (name : ℕ) : Type 0 where
    pub majority : HasMajority
    pub pending : HasPendingCall name
    pub room : HasRoom name

  -- the call can't be completed for that reason, the lowest number first
  abbrev pub IsUnsettled : ℕ → SettleError → Type 0
  IsUnsettled name error.NoMajority = HasNoMajority
  IsUnsettled name error.NotPending = HasMajority × HasNoPendingCall name
  IsUnsettled name error.Room = HasMajority × HasPendingCall name × HasNoRoom name
  IsUnsettled name (error.Memory steps) = ⊥
