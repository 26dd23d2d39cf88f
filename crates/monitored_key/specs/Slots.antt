-- A slot for one kept write, in front of others.
use Rattle.std.specs.Prelude.{ℕ, ◌≡◌, ◌≢◌, ◌≤◌, Bool, false, nat_eq, cond, List, ◌∷◌, Option, Some, None, IfSome}
use Rattle.key_monitor.specs.KeptWrites.{KeptWrite}
use Rattle.monitored_key.specs.Maps.{entry_at}

-- the entries with that one first, if there is one
abbrev pub put_before : {X : Type 0} → Option X → List X → List X
put_before None entries = entries
put_before (Some e) entries = e ∷ entries

-- it is the first end
abbrev pub ends_at : Option ℕ → ℕ → Bool
ends_at None place = false
ends_at (Some end) place = nat_eq end place

-- whose family ended first there: that of the slot's write, or of another
abbrev pub owner_beside : Option (ℕ × KeptWrite) → (ℕ → Option ℕ) → ℕ → Option ℕ
owner_beside None others end = others end
owner_beside (Some w) others end = cond (ends_at w.1.end end) (Some w.0) (others end)

-- the slot's write has a number and an end of its own
abbrev pub StandsApart : Option (ℕ × KeptWrite) → List (ℕ × KeptWrite) → (ℕ → Option ℕ) → Type 0
StandsApart None others owners = Unit {0}
StandsApart (Some w) others owners = (entry_at others w.0 ≡ None)
    × ((end : ℕ) → w.1.end ≡ Some end → owners end ≡ None)

-- it ended first no earlier than the floor
abbrev pub IsHighIn : Option (ℕ × KeptWrite) → ℕ → Type 0
IsHighIn slot floor = IfSome slot (λ w. (end : ℕ) → w.1.end ≡ Some end → floor ≤ end)

-- it has another number
abbrev pub HasOtherNumber : Option (ℕ × KeptWrite) → ℕ → Type 0
HasOtherNumber slot number = IfSome slot (λ w. w.0 ≢ number)

-- it has another first end, or none
abbrev pub HasOtherEnd : Option (ℕ × KeptWrite) → ℕ → Type 0
HasOtherEnd slot end = IfSome slot (λ w. w.1.end ≢ Some end)

-- it had no end, and has that one
pub record HasEndHere (old : Option (ℕ × KeptWrite)) (number place : ℕ)
    (new : Option (ℕ × KeptWrite)) : Type 0 where
  pub kept : KeptWrite
  pub was : old ≡ Some (number, kept)
  pub is : new ≡ Some (number, record { value = kept.value; begin = kept.begin; end = Some place })

-- the one of that end is gone
pub record GoesHere (old : Option (ℕ × KeptWrite)) (end : ℕ) (new : Option (ℕ × KeptWrite)) :
    Type 0 where
  pub number : ℕ
  pub kept : KeptWrite
  pub was : old ≡ Some (number, kept)
  pub ended : kept.end ≡ Some end
  pub is : new ≡ None
