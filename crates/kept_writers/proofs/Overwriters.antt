-- What overwrites an end overwrites each earlier one, but itself.
use Rattle.std.proofs.Common.{ℕ, ◌≡◌, ◌≢◌, ◌≤◌, inl, inr, List, Option, Some, None, is_some, MatchOption, false, ap, sym, ◌∙◌, subst, refl, arith}
use Rattle.std.proofs.lemmas.Bool.{cases_eq}
use Rattle.kept_zones.specs.Overwriting.{Overwrites, IsOverwritten}
use Rattle.kept_writers.specs.Ends.{number_at}
use Rattle.kept_writers.specs.Fresh.{IsFresh, NoneUpTo, IsFreshUpTo}

-- what holds without an answer
pub none_by : (P : Type 0) (Q : ℕ → Type 0) (o : Option ℕ) → is_some o ≡ false → MatchOption o P Q → P
none_by P Q None e h = h
none_by P Q (Some w) e h = absurd (cc)

module _ (ends zones : List (ℕ × ℕ)) (place : ℕ) where
  earlier : (w end other : ℕ) → Overwrites zones place w end → other ≤ end → other ≢ w → IsOverwritten zones place other
  earlier w end other o le apart = (w, record { last = o.last; is = o.is; apart = λ same. apart (sym same); early = o.early; later = omega (arith, o.later) })

  -- the overwriter isn't fresh
  pub none_up_to : (w end : ℕ) → Overwrites zones place w end → ((number : ℕ) → number_at ends w ≡ Some number → IsOverwritten zones place w) → NoneUpTo ends zones place end
  none_up_to w end o gone other number at le = elim (cases_eq other w) [
    | inl same ↦ subst (IsOverwritten zones place) (sym same) (gone number (ap (number_at ends) (sym same) ∙ at))
    | inr apart ↦ earlier w end other o le apart
  ]

  -- it is
  pub over_fresh : (w end : ℕ) → Overwrites zones place w end → IsFresh ends zones place w → IsFreshUpTo ends zones place end w
  over_fresh w end o fresh = record {
    is = fresh;
    others = λ apart_last other number at le. elim (cases_eq other w) [ inl same ↦ inl same | inr apart ↦ inr (earlier w end other o le apart) ];
  }

  -- the end itself is
  pub itself_fresh : (end : ℕ) → IsFresh ends zones place end → IsFreshUpTo ends zones place end end
  itself_fresh end fresh = record { is = fresh; others = λ apart. absurd (apart refl) }
