-- The entry of a map that is nearest to a place.
use Rattle.std.specs.Prelude.{ℕ, ◌≡◌, ◌<◌, ◌≤◌, ◌⊎◌, List, Option, Some, None}
use Rattle.kept_zones.specs.Overwriting.{last_of}

module _ (Within : ℕ → Type 0) where
  -- the last entry of which the key is within
  abbrev pub IsLastWithin : List (ℕ × ℕ) → Option (ℕ × ℕ) → Type 0
  IsLastWithin entries None = (q : ℕ) → Within q → last_of entries q ≡ None
  IsLastWithin entries (Some e) = Within e.0 × (last_of entries e.0 ≡ Some e.1)
      × ((q value : ℕ) → Within q → last_of entries q ≡ Some value → q ≤ e.0)

  -- the first entry of which the key is within
  abbrev pub IsFirstWithin : List (ℕ × ℕ) → Option (ℕ × ℕ) → Type 0
  IsFirstWithin entries None = (q : ℕ) → Within q → last_of entries q ≡ None
  IsFirstWithin entries (Some e) = Within e.0 × (last_of entries e.0 ≡ Some e.1)
      × ((q value : ℕ) → Within q → last_of entries q ≡ Some value → e.0 ≤ q)

-- the last entry before the place
abbrev pub IsLastBefore : List (ℕ × ℕ) → ℕ → Option (ℕ × ℕ) → Type 0
IsLastBefore entries place o = IsLastWithin (λ q. q < place) entries o

-- the last entry up to the place
abbrev pub IsLastUpTo : List (ℕ × ℕ) → ℕ → Option (ℕ × ℕ) → Type 0
IsLastUpTo entries place o = IsLastWithin (λ q. q ≤ place) entries o

-- the first entry after the place
abbrev pub IsFirstAfter : List (ℕ × ℕ) → ℕ → Option (ℕ × ℕ) → Type 0
IsFirstAfter entries place o = IsFirstWithin (λ q. place < q) entries o

-- the first entry of all
abbrev pub IsFirstOfAll : List (ℕ × ℕ) → Option (ℕ × ℕ) → Type 0
IsFirstOfAll entries None = (q : ℕ) → last_of entries q ≡ None
IsFirstOfAll entries (Some e) = (last_of entries e.0 ≡ Some e.1)
    × ((q value : ℕ) → last_of entries q ≡ Some value → e.0 ≤ q)

-- the later of an entry and one that may be missing
abbrev pub IsLater : ℕ × ℕ → Option (ℕ × ℕ) → Option (ℕ × ℕ) → Type 0
IsLater e None result = result ≡ Some e
IsLater e (Some other) result =
    ((e.0 < other.0) × (result ≡ Some other)) ⊎ ((other.0 ≤ e.0) × (result ≡ Some e))

-- the earlier of the two
abbrev pub IsEarlier : ℕ × ℕ → Option (ℕ × ℕ) → Option (ℕ × ℕ) → Type 0
IsEarlier e None result = result ≡ Some e
IsEarlier e (Some other) result =
    ((other.0 < e.0) × (result ≡ Some other)) ⊎ ((e.0 ≤ other.0) × (result ≡ Some e))
