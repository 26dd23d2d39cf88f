-- Calls of a part that are left out, before, between and after those that a picture shows.
use Rattle.std.specs.Prelude.{ℕ, zero, suc, ◌≡◌, ◌+◌, ◌-◌, List, [], ◌∷◌, ◌++◌, Option, Some, None}
use Rattle.std.specs.Prelude.{length, map, slice_get}
use Rattle.std.specs.List.Sorted.{IsStrictlyIncreasing}
use Rattle.recorder.specs.declared.part.Call.{Call}
use Rattle.scenes.specs.declared.gaps.Gap.{Gap}

-- so many calls from that one on, if there are any
abbrev pub gap_of : Option Call → ℕ → List Gap
gap_of None n = []
gap_of (Some call) zero = []
gap_of (Some call) (suc n) = record { place = call.invoked; calls = suc n } ∷ []

module _ (part : List Call) where
  -- the calls from one index up to another
  abbrev pub gap_between : ℕ → ℕ → List Gap
  gap_between from to = gap_of (slice_get part from) (to - from)

  -- from an index on, the calls before each shown one that aren't shown, and those after the last
  abbrev pub gaps_from : ℕ → List ℕ → List Gap
  gaps_from from [] = gap_between from (length part)
  gaps_from from (i ∷ shown) = gap_between from i ++ gaps_from (i + 1) shown

  -- the calls that are left out, run by run: where the first of each run begins, and how many
  pub record AreGaps (shown : List ℕ) (gaps : List Gap) : Type 0 where
    pub are : gaps ≡ gaps_from 0 shown
    pub rising : IsStrictlyIncreasing (map (λ gap. gap.place) gaps)
