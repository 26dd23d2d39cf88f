-- A map from places to places, as the list of its entries.
use Rattle.std.specs.Prelude.{ℕ, ◌≡◌, ◌≢◌, ◌<◌, ◌≤◌, List, ◌∷◌, Option, Some, None, IsSome, length}
use Rattle.kept_zones.specs.Overwriting.{LacksZone, last_of}

-- of two entries with the same key the first counts
pub record PlaceMap : Type 0 where
  pub entries : List (ℕ × ℕ)

-- the entries with that one first, if there is one
abbrev pub put_before : Option (ℕ × ℕ) → List (ℕ × ℕ) → List (ℕ × ℕ)
put_before None entries = entries
put_before (Some e) entries = e ∷ entries

-- no entry has another key
abbrev pub HasNoOther : List (ℕ × ℕ) → ℕ → Type 0
HasNoOther entries key = (q : ℕ) → q ≢ key → last_of entries q ≡ None

-- the entries without those of the key
pub record LacksKey (old : List (ℕ × ℕ)) (key : ℕ) (new : List (ℕ × ℕ)) : Type 0 where
  pub gone : LacksZone old key new
  pub no_more : length new ≤ length old
  pub fewer : IsSome (last_of old key) → length new < length old
