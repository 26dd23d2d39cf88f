-- How many threads check, and which errors come.
use Rattle.std.specs.Prelude.{ℕ, ◌≤◌}
use Rattle.parallel_keys.specs.declared.error.CheckError.{CheckError}
use Rattle.parallel_keys.specs.declared.error.CheckError.TheVariants.{Memory, Thread}

-- how many workers there may be at most
abbrev pub worker_limit : ℕ
worker_limit = 16

-- how many workers there may be
pub record IsWorkerCount (workers : ℕ) : Type 0 where
  pub least : 1 ≤ workers
  pub most : workers ≤ worker_limit

-- what so many workers may fail by: a thread is started only for a second worker
abbrev pub MayFail : ℕ → CheckError → Type 0
MayFail workers Memory = Unit {0}
MayFail workers Thread = 2 ≤ workers
