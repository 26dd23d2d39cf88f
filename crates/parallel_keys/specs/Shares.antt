-- The shares of workers.
use Rattle.std.specs.Prelude.{◌<◌, ◌≤◌, List}
use Rattle.certificate_check.specs.declared.verdict.Verdict.{Verdict}
use Rattle.parallel_keys.specs.declared.share.Share.{Share}
use Rattle.parallel_keys.specs.Checks.{ArePaired, parts_in, orders_in}
use Rattle.parallel_keys.specs.Workers.{worker_limit}
use Rattle.parallel_keys.specs.IndexVerdicts.{AreOfWorker, AreFirstLists}

-- the share is one worker's, of as many as there may be
pub record IsShare (share : Share) : Type 0 where
  pub paired : ArePaired share.checks
  pub within : share.worker < share.workers
  pub few : share.workers ≤ worker_limit

-- the verdicts are those of the share's worker
abbrev pub AreOfShare : Share → List Verdict → Type 0
AreOfShare share verdicts = AreOfWorker (parts_in share.checks) (orders_in share.checks)
    share.worker share.workers verdicts

-- the lists are those of the workers up to the share's
abbrev pub AreUpToShare : Share → List (List Verdict) → Type 0
AreUpToShare share lists = AreFirstLists (parts_in share.checks) (orders_in share.checks)
    share.workers share.worker lists
