-- Stores.
use Rattle.std.specs.Prelude.{ℕ, ◌≡◌, ◌<◌, List, Result, Err, length}
use Rattle.recorder.specs.declared.row.Row.{Row}
use Rattle.node_threads.specs.declared.config.StoreConfig.{StoreConfig}
use Rattle.node_threads.specs.declared.switch_replica.Wanted.{Wanted}
use Rattle.node_threads.specs.declared.switch_replica.Wanted.TheVariants as wanted
use Rattle.world_steps.specs.declared.effect.Effect.{Effect}
use Rattle.world_steps.specs.declared.refusal.Refusal.{Refusal}
use Rattle.world_steps.specs.declared.refusal.Refusal.TheVariants as refusal
use Rattle.world_steps.specs.declared.step.Step.{Step}
use Rattle.world_steps.specs.declared.step.Step.TheVariants as step
use Rattle.hall_lock.specs.Turns.{ServesStep}
use Rattle.seats.specs.Rounds.{Reach}

-- what contracts see of a store: how it is configured, and the gate that its messages meet
pub record Store (G : Type 0) : Type 0 where
  pub config : StoreConfig
  pub gate : G

-- the most rounds of messages in a phase of a call
abbrev pub round_limit : ℕ
round_limit = 10000

-- how many replicas a store that is so configured has
abbrev pub replica_count : StoreConfig → ℕ
replica_count config = length config.world.quorums.votes

-- why a hall refuses to stop a replica that is down there, or to start one that is up
abbrev pub idle_refusal : Wanted → Refusal
idle_refusal wanted.Down = refusal.ReplicaDown
idle_refusal wanted.Up = refusal.ReplicaUp

-- the step that stops a replica, or starts it
abbrev pub switch_step : Wanted → ℕ → Step
switch_step wanted.Down replica = step.StopReplica replica
switch_step wanted.Up replica = step.StartReplica replica

-- what a call in a store that is so configured has to reach its replicas
abbrev pub reach_of : StoreConfig → Reach
reach_of config = record { replicas = replica_count config; rounds = config.rounds }

-- one turn of a hall, in which it took the step, or refused it for another reason than memory
pub record TakesOrNeedsNot (step : Step) : Type 0 where
  pub before : List Row
  pub after : List Row
  pub result : Result Effect Refusal
  pub turn : ServesStep before step result after
  pub reason : result ≡ Err refusal.Memory → ⊥

-- so many halls, each of which took the step or needed it not
abbrev pub AllTakeOrNeedNot : ℕ → Step → Type 0
AllTakeOrNeedNot halls step = (hall : ℕ) → hall < halls → TakesOrNeedsNot step
