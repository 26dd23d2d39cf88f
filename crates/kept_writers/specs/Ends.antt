-- First ends, each with the number of its family's write.
use Rattle.std.specs.Prelude.{ℕ, ◌≡◌, ◌<◌, ◌≤◌, List, Option, Some, None, IsSome}
use Rattle.std.specs.BTreeMap.{is_at}
use Rattle.std.specs.Map.{lookup}
use Rattle.std.specs.Ordering.{nat_cmp}

-- the number of the write whose family ended first at that place
abbrev pub number_at : List (ℕ × ℕ) → ℕ → Option ℕ
number_at ends end = lookup (is_at (nat_cmp end)) ends

-- the greatest end
abbrev pub IsGreatest : List (ℕ × ℕ) → Option ℕ → Type 0
IsGreatest ends None = (other : ℕ) → number_at ends other ≡ None
IsGreatest ends (Some end) = IsSome (number_at ends end)
    × ((other number : ℕ) → number_at ends other ≡ Some number → other ≤ end)

-- the greatest end before the place
abbrev pub IsGreatestBefore : List (ℕ × ℕ) → ℕ → Option ℕ → Type 0
IsGreatestBefore ends place None = (other : ℕ) → other < place → number_at ends other ≡ None
IsGreatestBefore ends place (Some end) = (end < place) × IsSome (number_at ends end)
    × ((other number : ℕ) → other < place → number_at ends other ≡ Some number → other ≤ end)

-- the least end, with its number
abbrev pub IsLeastEnd : List (ℕ × ℕ) → Option (ℕ × ℕ) → Type 0
IsLeastEnd ends None = (other : ℕ) → number_at ends other ≡ None
IsLeastEnd ends (Some e) = (number_at ends e.0 ≡ Some e.1)
    × ((other number : ℕ) → number_at ends other ≡ Some number → e.0 ≤ other)

-- the least end after that one, with its number
abbrev pub IsLeastEndAfter : List (ℕ × ℕ) → ℕ → Option (ℕ × ℕ) → Type 0
IsLeastEndAfter ends end None = (other : ℕ) → end < other → number_at ends other ≡ None
IsLeastEndAfter ends end (Some e) = (end < e.0) × (number_at ends e.0 ≡ Some e.1)
