-- Of some ends the fresh ones, by the greatest and the one before it.
use Rattle.std.proofs.Common.{ℕ, ◌≡◌, ◌≢◌, ◌≤◌, ◌⊎◌, inl, inr, List, Some, None, sym, ◌∙◌, arith}
use Rattle.std.proofs.lemmas.Bool.{cases_eq}
use Rattle.std.proofs.lemmas.Option.{none-some}
use Rattle.kept_zones.specs.Overwriting.{IsOverwritten}
use Rattle.kept_writers.specs.declared.fresh.FreshEnds.TheVariants as fresh
use Rattle.kept_writers.specs.Ends.{number_at, IsGreatest, IsGreatestBefore}
use Rattle.kept_writers.specs.Fresh.{NoneUpTo, IsFreshUpTo, AreFreshEnds}

module _ (ends zones : List (ℕ × ℕ)) (place : ℕ) (last : ℕ) (is : IsGreatest ends (Some last)) where
  pub none_fresh : NoneUpTo ends zones place last → AreFreshEnds ends zones place fresh.None
  none_fresh none other number at = none other number at (is.1 other number at)

  -- an end that overwrites the greatest
  pub one_earlier : (found : ℕ) → found ≢ last → IsFreshUpTo ends zones place last found → AreFreshEnds ends zones place (fresh.One found)
  one_earlier found apart f = (f.is, λ other number at. f.others apart other number at (is.1 other number at))

  module _ (found : ℕ) (same : found ≡ last) (f : IsFreshUpTo ends zones place last found) where
    -- the others are before it
    others_by : (next : ℕ) → IsGreatestBefore ends last (Some next) → ((other number : ℕ) → number_at ends other ≡ Some number → other ≤ next → (other ≡ found) ⊎ IsOverwritten zones place other) → AreFreshEnds ends zones place (fresh.One found)
    others_by next before rest = (
      f.is,
      λ other number at. elim (cases_eq other found) [
        | inl here ↦ inl here
        | inr apart ↦ (let most = is.1 other number at in rest other number at (before.2 other number (omega arith) at))
      ],
    )

    pub one_alone : IsGreatestBefore ends last None → AreFreshEnds ends zones place (fresh.One found)
    one_alone none = (
      f.is,
      λ other number at. elim (cases_eq other found) [
        | inl here ↦ inl here
        | inr apart ↦ (let most = is.1 other number at in absurd (none-some number (sym (none other (omega arith)) ∙ at)))
      ],
    )

    module _ (next : ℕ) (before : IsGreatestBefore ends last (Some next)) where
      pub one_before : NoneUpTo ends zones place next → AreFreshEnds ends zones place (fresh.One found)
      one_before none = others_by next before (λ other number at le. inr (none other number at le))

      module _ (second : ℕ) (g : IsFreshUpTo ends zones place next second) where
        -- the greatest overwrites the next one
        pub one_itself : second ≡ found → AreFreshEnds ends zones place (fresh.One found)
        one_itself e = others_by next before (λ other number at le. elim (g.others (λ n. (let less = before.0 in absurd (omega arith))) other number at le) [ inl here ↦ inl (here ∙ e) | inr over ↦ inr over ])

        pub two_fresh : second ≢ found → AreFreshEnds ends zones place (fresh.Several found second)
        two_fresh apart = (f.is, g.is, λ e. apart (sym e))
