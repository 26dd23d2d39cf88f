-- The header of a file: what its first line says.
use Rattle.std.specs.Prelude.{ℕ, List, Option, Some, None, Result, Ok, Err, codes, bytes_eq, ◌==◌}
use Rattle.std.specs.Prelude.{if◌then◌else◌}
use Rattle.serde_json.specs.Data.{Data}
use Rattle.file_format.specs.declared.fault.LineFault.{LineFault}
use Rattle.file_format.specs.declared.fault.LineFault.TheVariants.{NoHeader, Version}
use Rattle.file_format.specs.Members.{text_at, number_at}

-- a file of that name, and of version 1
unfoldable pub header_of : List ℕ → Option (List ℕ) → Option ℕ → Result (Unit {0}) LineFault
header_of name None version = Err NoHeader
header_of name (Some abd) None = if bytes_eq abd name then Err Version else Err NoHeader
header_of name (Some abd) (Some version) =
    if bytes_eq abd name then (if version == 1 then Ok tt else Err Version) else Err NoHeader

-- the value is the header of a file of that name, or its fault
unfoldable pub header_in : List ℕ → Data → Result (Unit {0}) LineFault
header_in name d = header_of name (text_at (codes "abd") d) (number_at (codes "version") d)
