-- A device before and after.
use Rattle.std.specs.Prelude.{ℕ, List, Option}

-- two states of a device: what a reader had left, or what had gone out to a writer, and how often
-- it had failed
pub record DeviceStates : Type 0 where
  pub old : Option (List ℕ)
  pub new : Option (List ℕ)
  pub failures : ℕ
  pub failures_now : ℕ

-- the two states of a device, by its bytes (what it has left, or what went out to it) and by its
-- count of failures
abbrev pub states : {D : Type 0} → (D → Option (List ℕ)) → (D → ℕ) → D → D → DeviceStates
states bytes failures old new = record {
  old = bytes old;
  new = bytes new;
  failures = failures old;
  failures_now = failures new;
}

-- the same of a device that had those bytes at first, before failures were counted from `old` on
abbrev pub states_since : {D : Type 0} → Option (List ℕ) → (D → Option (List ℕ)) → (D → ℕ) → D → D
    → DeviceStates
states_since start bytes failures old new = record {
  old = start;
  new = bytes new;
  failures = failures old;
  failures_now = failures new;
}
