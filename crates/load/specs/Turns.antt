-- The call that a caller makes at a turn.
use Rattle.std.specs.Prelude.{ℕ, ◌+◌, ◌/◌, ◌%◌, ◌&&◌, ◌==◌, Bool, not, if◌then◌else◌, List, [], ◌∷◌}
use Rattle.std.specs.Prelude.{◌++◌, codes, decimal}
use Rattle.tag.specs.declared.actions.Action.{Action}
use Rattle.tag.specs.declared.actions.Action.TheVariants.{Read, Write}
use Rattle.load.specs.declared.turns.Turn.{Turn}

-- the number of its key: caller 1 keeps to key 0, every other caller takes one key after another
abbrev pub key_number : Turn → ℕ
key_number turn = if turn.caller == 1 then 0 else turn.number % turn.keys

-- whether it is a write: caller 1 writes at its even turns; every other caller only reads key 0,
-- and alternately writes and reads each other key
abbrev pub writes : Turn → Bool
writes turn =
    if turn.caller == 1 then turn.number % 2 == 0
    else not (turn.number % turn.keys == 0) && (turn.number / turn.keys + turn.caller) % 2 == 0

-- a k and the digit of the number, which is below 8
abbrev pub key_text : ℕ → List ℕ
key_text number = codes "k" ++ (48 + number) ∷ []

-- what is written tells the caller and the turn
abbrev pub value_text : Turn → List ℕ
value_text turn = codes "c" ++ decimal turn.caller ++ codes "t" ++ decimal turn.number

-- the key of the turn's call
abbrev pub key_at : Turn → List ℕ
key_at turn = key_text (key_number turn)

-- the action of the turn's call
abbrev pub action_at : Turn → Action
action_at turn = if writes turn then Write (value_text turn) else Read
