-- What is known of a key without a call, and its first call.
use Rattle.std.specs.Prelude.{ℕ, ◌≡◌, List, [], ◌∷◌, Option, None}
use Rattle.recorder.specs.declared.part.Call.{Call}
use Rattle.recorder.specs.Parts.{IsPending}
use Rattle.key_monitor.specs.Follows.{KeyState}

-- the state has no zone, no write, no open read and no first show
pub record KnowsNothing (state : KeyState) : Type 0 where
  pub zones : state.known.zones ≡ []
  pub floor : state.known.floor ≡ 0
  pub writes : (op : ℕ) → state.writes op ≡ None
  pub opens : (place : ℕ) → state.opens place ≡ None
  pub first : state.first ≡ None

-- the table has no entry
abbrev pub IsEmptyTable : (ℕ → Option ℕ) → Type 0
IsEmptyTable source = (number : ℕ) → source number ≡ None

-- the row at that place, which may be the first of the file, begins the first call of the key
pub record BeginsFirst (place : ℕ) (after : List Call) (call : Call) : Type 0 where
  pub alone : after ≡ call ∷ []
  pub at : call.invoked ≡ place
  pub pending : IsPending call
