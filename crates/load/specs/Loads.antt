-- How large a load may be.
use Rattle.load.specs.Ranges.{IsIn, callers_range, calls_range, faults_range, keys_range}
use Rattle.load.specs.Ranges.{rounds_range}
use Rattle.load.specs.declared.load.LoadOptions.{LoadOptions}

-- each number of the load is in its range
pub record IsWithinLimits (load : LoadOptions) : Type 0 where
  pub callers : IsIn callers_range load.callers
  pub calls : IsIn calls_range load.calls
  pub keys : IsIn keys_range load.keys
  pub rounds : IsIn rounds_range load.rounds
  pub lost : IsIn faults_range load.drop
  pub doubled : IsIn faults_range load.double
