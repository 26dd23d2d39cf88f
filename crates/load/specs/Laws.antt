-- Laws of the workload.
use Rattle.std.specs.Prelude.{◌≡◌, true}
use Rattle.load.specs.Turns.{key_number, writes}
use Rattle.load.specs.declared.turns.Turn.{Turn}

-- whoever writes key 0 is caller 1
abbrev pub KeyZeroHasOneWriter : Type 0
KeyZeroHasOneWriter = (turn : Turn) → key_number turn ≡ 0 → writes turn ≡ true → turn.caller ≡ 1
