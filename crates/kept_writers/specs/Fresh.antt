-- Which of some ends no zone overwrites before a place.
use Rattle.std.specs.Prelude.{ℕ, ◌≡◌, ◌≢◌, ◌≤◌, ◌⊎◌, List, Some, IsSome}
use Rattle.kept_zones.specs.Overwriting.{IsOverwritten}
use Rattle.kept_writers.specs.declared.fresh.FreshEnds.{FreshEnds}
use Rattle.kept_writers.specs.declared.fresh.FreshEnds.TheVariants as fresh
use Rattle.kept_writers.specs.Ends.{number_at}

module _ (ends zones : List (ℕ × ℕ)) (place : ℕ) where
  -- it is one of the ends, and no zone overwrites its zone before the place
  pub record IsFresh (end : ℕ) : Type 0 where
    pub there : IsSome (number_at ends end)
    pub fresh : IsOverwritten zones place end → ⊥

  -- no end up to that one is fresh
  abbrev pub NoneUpTo : ℕ → Type 0
  NoneUpTo last = (other number : ℕ) → number_at ends other ≡ Some number → other ≤ last
      → IsOverwritten zones place other

  -- the end is fresh; if it isn't the last itself, no other end up to the last is
  pub record IsFreshUpTo (last end : ℕ) : Type 0 where
    pub is : IsFresh end
    pub others : end ≢ last → (other number : ℕ) → number_at ends other ≡ Some number
        → other ≤ last → (other ≡ end) ⊎ IsOverwritten zones place other

  -- none is fresh, one is, or these two are
  abbrev pub AreFreshEnds : FreshEnds → Type 0
  AreFreshEnds fresh.None =
      (other number : ℕ) → number_at ends other ≡ Some number → IsOverwritten zones place other
  AreFreshEnds (fresh.One end) = IsFresh end × ((other number : ℕ)
      → number_at ends other ≡ Some number → (other ≡ end) ⊎ IsOverwritten zones place other)
  AreFreshEnds (fresh.Several one two) = IsFresh one × IsFresh two × (one ≢ two)
