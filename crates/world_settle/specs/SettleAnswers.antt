-- What `settle` answers, and what it leaves.
use Rattle.std.specs.Prelude.{ℕ, ◌≡◌, ◌≢◌, ◌+◌, ◌*◌, ◌/◌, ◌<◌, ◌≤◌, List, [], ◌∷◌, ◌++◌, Some}
use Rattle.std.specs.Prelude.{Result, Ok, Err, length}
use Rattle.tag.specs.declared.actions.Returned.{Returned}
use Rattle.tag.specs.declared.numbers.OpId.{OpId}
use Rattle.quorum.specs.Quorums.{majority_of}
use Rattle.client_phases.specs.declared.outcomes.Phase.TheVariants as phase
use Rattle.network.specs.Flights.{copies_of}
use Rattle.recorder.specs.declared.row.Row.{Row}
use Rattle.recorder.specs.declared.row.Row.TheVariants.{Respond}
use Rattle.world_steps.specs.Refusals.{phase_at}
use Rattle.world_steps.specs.Runs.{after_from}
use Rattle.world_steps.specs.declared.step.Step.{Step}
use Rattle.world_steps.specs.declared.system.System.{System}
use Rattle.world_settle.specs.Agreeing.{RepliesAgree}
use Rattle.world_settle.specs.Settling.{AreSettleSteps}
use Rattle.world_settle.specs.Refusing.{MaySettle, IsUnsettled, NeedsAt, pending_at}
use Rattle.world_settle.specs.declared.errors.SettleError.{SettleError}
use Rattle.world_settle.specs.declared.errors.SettleError.TheVariants as error

-- all steps that complete the call were taken, so many
pub record AllTaken (old : System) (name count : ℕ) (new : System) : Type 0 where
  pub may : MaySettle old name
  pub steps : List Step
  pub settles : AreSettleSteps name old steps
  pub counted : length steps ≡ count
  pub after : new ≡ after_from old steps

-- the first of the steps that complete the call were taken, so many, and not all
pub record SomeTaken (old : System) (name count : ℕ) (new : System) : Type 0 where
  pub may : MaySettle old name
  pub taken : List Step
  pub rest : List Step
  pub settles : AreSettleSteps name old (taken ++ rest)
  pub some_left : rest ≢ []
  pub counted : length taken ≡ count
  pub after : new ≡ after_from old taken

-- what `settle` answers and leaves: the count of all steps and the system after them; for memory
-- the count of those that were taken; or a refusal, and the system as it was
abbrev pub SettlesBy : System → ℕ → Result ℕ SettleError → System → Type 0
SettlesBy old name (Ok count) new = AllTaken old name count new
SettlesBy old name (Err (error.Memory count)) new = SomeTaken old name count new
SettlesBy old name (Err error.NoMajority) new = IsUnsettled old name error.NoMajority × (new ≡ old)
SettlesBy old name (Err error.NotPending) new = IsUnsettled old name error.NotPending × (new ≡ old)
SettlesBy old name (Err error.Room) new = IsUnsettled old name error.Room × (new ≡ old)

-- flights that were sent earlier keep the copies that they had
abbrev pub KeepsEarlier : System → System → Type 0
KeepsEarlier old new = (flight : ℕ) → flight < old.pool.sent → copies_of new.pool.flights flight
    ≡ copies_of old.pool.flights flight

-- the call that was pending has its response, the last row of the record, and the client is idle
pub record Completes (old : System) (name : ℕ) (new : System) : Type 0 where
  pub op : OpId
  pub pending : pending_at old name ≡ Some op
  pub rows : List Row
  pub returned : Returned
  pub last : new.history.rows ≡ rows ++ Respond op returned ∷ []
  pub idle : phase_at new name ≡ Some phase.Idle

-- at most three steps for each replica that is needed, and one
abbrev pub IsWithin : System → ℕ → ℕ → Type 0
IsWithin s name count = (a b : ℕ) → NeedsAt s name a b → count ≤ 3 * (a + b) + 1

-- with majorities of n replicas at most 6 (n / 2 + 1) + 1 steps
abbrev pub IsWithinForMajorities : System → ℕ → Type 0
IsWithinForMajorities s count =
    (n : ℕ) → s.config.quorums ≡ majority_of n → count ≤ 6 * (n / 2 + 1) + 1

-- for a short read whose replies agree at most three steps for each replica that it still asks, and
-- one
abbrev pub IsWithinIfAgreed : System → ℕ → ℕ → Type 0
IsWithinIfAgreed s name count = (a : ℕ) → RepliesAgree s name a → count ≤ 3 * a + 1
