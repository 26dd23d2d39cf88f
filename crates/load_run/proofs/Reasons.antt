-- Why a load isn't run to its end, where a caller has no seat.
use Rattle.std.proofs.Common.{◌≡◌, ◌⊎◌, inl, inr}
use Rattle.node_threads.specs.declared.errors.JoinError.{JoinError}
use Rattle.node_threads.specs.declared.errors.JoinError.TheVariants as join
use Rattle.load_run.specs.declared.error.LoadError.{LoadError}
use Rattle.load_run.specs.declared.error.LoadError.TheVariants as load
use Rattle.load_run.specs.LoadErrors.{error_of_join}

pub join_reason : (given : JoinError) (error : LoadError) → error ≡ error_of_join given → (error ≡ load.ClientTaken) ⊎ (error ≡ load.Memory)
join_reason join.ClientTaken error is = inl is
join_reason join.Memory error is = inr is
