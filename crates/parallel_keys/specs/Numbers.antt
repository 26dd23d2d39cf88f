-- The numbers of the reasons why orders weren't checked, as programs print them.
use Rattle.std.specs.Prelude.{ℕ}
use Rattle.parallel_keys.specs.declared.error.CheckError.{CheckError}
use Rattle.parallel_keys.specs.declared.error.CheckError.TheVariants.{Memory, Thread}

-- the number of a reason
abbrev pub check_error_number : CheckError → ℕ
check_error_number Memory = 1
check_error_number Thread = 2
