use Rattle.parallel_keys.proofs.check.+run_workers.Given as goal

abbrev pub decreases-run_workers : goal.decreases-run_workers
decreases-run_workers g l = l.last.worker
