-- The maps of open calls: the calls by number, and the number of each client's call.
use Rattle.std.specs.Prelude.{ℕ, ◌≡◌, ◌<◌, List, Option, Some}
use Rattle.std.specs.BTreeMap.{is_at}
use Rattle.std.specs.Map.{lookup}
use Rattle.std.specs.Ordering.{nat_cmp}
use Rattle.open_calls.specs.declared.open_call.OpenCall.{OpenCall}

-- what the entries have at the number
abbrev pub entry_at : {X : Type 0} → List (ℕ × X) → ℕ → Option X
entry_at entries number = lookup (is_at (nat_cmp number)) entries

-- each call was begun, and is its client's only one
pub record AreIndexed {T : Type 0} (begun : ℕ) (calls : ℕ → Option (OpenCall T))
    (clients : ℕ → Option ℕ) : Type 0 where
  pub below : (number : ℕ) (call : OpenCall T) → calls number ≡ Some call → number < begun
  pub owner : (number : ℕ) (call : OpenCall T) → calls number ≡ Some call → clients call.client
      ≡ Some number
  pub owned : (client number : ℕ) → clients client ≡ Some number → (call : OpenCall T)
      × (calls number ≡ Some call) × (call.client ≡ client)
