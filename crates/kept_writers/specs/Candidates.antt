-- Which of the kept writes of one value a read may have read.
use Rattle.std.specs.Prelude.{ℕ, ◌≡◌, ◌≢◌, ◌<◌, ◌≤◌, ◌⊎◌, List, Option, Some, None, IsSome}
use Rattle.kept_zones.specs.Overwriting.{IsOverwritten}
use Rattle.kept_writers.specs.declared.readable.Candidates.{Candidates}
use Rattle.kept_writers.specs.declared.readable.Candidates.TheVariants as candidates
use Rattle.kept_writers.specs.Ends.{number_at}

-- where the write of that number began, if no call of its family has ended
abbrev pub begin_at : List (ℕ × ℕ) → ℕ → Option ℕ
begin_at begins number = number_at begins number

-- the least number
abbrev pub IsLeast : List (ℕ × ℕ) → Option ℕ → Type 0
IsLeast begins None = (other : ℕ) → begin_at begins other ≡ None
IsLeast begins (Some number) = IsSome (begin_at begins number)
    × ((other begin : ℕ) → begin_at begins other ≡ Some begin → number ≤ other)

-- the least number after that one
abbrev pub IsLeastAfter : List (ℕ × ℕ) → ℕ → Option ℕ → Type 0
IsLeastAfter begins low None = (other : ℕ) → low < other → begin_at begins other ≡ None
IsLeastAfter begins low (Some number) = (low < number) × IsSome (begin_at begins number)

-- a number stands once: among those without an end, or at one end
pub record StandOnce (begins ends : List (ℕ × ℕ)) : Type 0 where
  pub once : (a b number : ℕ) → number_at ends a ≡ Some number → number_at ends b ≡ Some number
      → a ≡ b
  pub apart : (end number : ℕ) → number_at ends end ≡ Some number
      → begin_at begins number ≡ None

module _ (begins ends zones : List (ℕ × ℕ)) (place : ℕ) where
  -- no call of the write's family has ended, or no zone overwrites its own before the place
  abbrev pub IsCandidate : ℕ → Type 0
  IsCandidate number = IsSome (begin_at begins number) ⊎ ((end : ℕ)
      × (number_at ends end ≡ Some number) × (IsOverwritten zones place end → ⊥))

  -- none is a candidate, that one alone is, or these two are
  abbrev pub AreCandidates : Candidates → Type 0
  AreCandidates candidates.None = ((number : ℕ) → begin_at begins number ≡ None)
      × ((end number : ℕ) → number_at ends end ≡ Some number → IsOverwritten zones place end)
  AreCandidates (candidates.One number) = IsCandidate number
      × ((other begin : ℕ) → begin_at begins other ≡ Some begin → other ≡ number)
      × ((end other : ℕ) → number_at ends end ≡ Some other
      → (other ≡ number) ⊎ IsOverwritten zones place end)
  AreCandidates (candidates.Several one two) = IsCandidate one × IsCandidate two × (one ≢ two)
