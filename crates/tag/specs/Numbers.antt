-- The numbers of the reasons why a text or a number is no name, as programs print them.
use Rattle.std.specs.Prelude.{ℕ}
use Rattle.tag.specs.declared.names.NameError.{NameError}
use Rattle.tag.specs.declared.names.NameError.TheVariants.{BadKey, BadValue, BadClient, Memory}

-- the number of a reason
abbrev pub name_error_number : NameError → ℕ
name_error_number BadKey = 1
name_error_number BadValue = 2
name_error_number BadClient = 3
name_error_number Memory = 4
