-- Sets of clients, as marks by name.
use Rattle.std.specs.Prelude.{ℕ, List, Bool, false, get_or}

-- the client has a mark
abbrev pub is_marked : List Bool → ℕ → Bool
is_marked marks client = get_or marks client false
