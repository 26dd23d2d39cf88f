-- The candidates among writes with an end, and among all.
use Rattle.std.proofs.Common.{ℕ, ◌≡◌, inl, inr, List, [], Option, Some, None, IsSome, ap, sym, ◌∙◌, refl, arith}
use Rattle.std.proofs.lemmas.Bool.{cases_lt}
use Rattle.std.proofs.lemmas.Option.{same_Some, none-some}
use Rattle.kept_writers.specs.declared.readable.Candidates.{Candidates}
use Rattle.kept_writers.specs.declared.readable.Candidates.TheVariants as candidates
use Rattle.kept_writers.specs.declared.fresh.FreshEnds.TheVariants as fresh
use Rattle.kept_writers.specs.Candidates.{begin_at, IsLeast, IsLeastAfter, StandOnce, IsCandidate, AreCandidates}
use Rattle.kept_writers.specs.Ends.{number_at}
use Rattle.kept_writers.specs.Fresh.{AreFreshEnds}

some_of : (o : Option ℕ) → IsSome o → (v : ℕ) × (o ≡ Some v)
some_of None h = absurd (cc)
some_of (Some v) h = (v, refl)

-- ---- with an end

module _ (ends zones : List (ℕ × ℕ)) (place : ℕ) where
  pub ended_none : AreFreshEnds ends zones place fresh.None → AreCandidates [] ends zones place candidates.None
  ended_none none = (λ number. refl, none)

  pub ended_one : (end number : ℕ) → AreFreshEnds ends zones place (fresh.One end) → number_at ends end ≡ Some number → AreCandidates [] ends zones place (candidates.One number)
  ended_one end number f at = (
    inr (end, at, f.0.fresh),
    λ other begin there. absurd (none-some begin there),
    λ e other there. elim (f.1 e other there) [
      | inl same ↦ inl (same_Some other number (sym there ∙ (ap (number_at ends) same ∙ at)))
      | inr over ↦ inr over
    ],
  )

  pub ended_several : (one two first second : ℕ) → StandOnce [] ends → AreFreshEnds ends zones place (fresh.Several one two) → number_at ends one ≡ Some first → number_at ends two ≡ Some second → AreCandidates [] ends zones place (candidates.Several first second)
  ended_several one two first second once f at_one at_two = (
    inr (one, at_one, f.0.fresh),
    inr (two, at_two, f.1.fresh),
    λ same. f.2 (once.once one two second (at_one ∙ ap Some same) at_two),
  )

-- ---- all

pub once_ended : (begins ends : List (ℕ × ℕ)) → StandOnce begins ends → StandOnce [] ends
once_ended begins ends s = record { once = s.once; apart = λ end number at. refl }

module _ (begins ends zones : List (ℕ × ℕ)) (place : ℕ) where
  -- a candidate with an end
  ended_too : (number : ℕ) → IsCandidate [] ends zones place number → IsCandidate begins ends zones place number
  ended_too number (inl h) = absurd (cc)
  ended_too number (inr h) = inr h

  no_begin : IsLeast begins None → (other begin : ℕ) → begin_at begins other ≡ Some begin → ⊥
  no_begin none other begin at = none-some begin (sym (none other) ∙ at)

  pub none_begun : (c : Candidates) → IsLeast begins None → AreCandidates [] ends zones place c → AreCandidates begins ends zones place c
  none_begun candidates.None none h = (none, h.1)
  none_begun (candidates.One number) none h = (ended_too number h.0, λ other begin at. absurd (no_begin none other begin at), h.2)
  none_begun (candidates.Several one two) none h = (ended_too one h.0, ended_too two h.1, h.2)

  module _ (first : ℕ) (least : IsLeast begins (Some first)) where
    pub two_begun : (second : ℕ) → IsLeastAfter begins first (Some second) → AreCandidates begins ends zones place (candidates.Several first second)
    two_begun second after = (inl least.0, inl after.1, λ same. (let less = after.0 in absurd (omega arith)))

    pub one_begun : IsLeastAfter begins first None → AreCandidates [] ends zones place candidates.None → AreCandidates begins ends zones place (candidates.One first)
    one_begun after none = (
      inl least.0,
      λ other begin at. elim (cases_lt first other) [
        | inl less ↦ absurd (none-some begin (sym (after other less) ∙ at))
        | inr more ↦ (let low = least.1 other begin at in omega arith)
      ],
      λ end other at. inr (none.1 end other at),
    )

    -- and one with an end
    beside : (number : ℕ) → StandOnce begins ends → IsCandidate [] ends zones place number → AreCandidates begins ends zones place (candidates.Several first number)
    beside number once (inl h) = absurd (cc)
    beside number once (inr h) = (
      inl least.0,
      inr h,
      λ same.
          let s = some_of (begin_at begins first) least.0 in
          none-some s.0 (sym (ap (begin_at begins) same ∙ once.apart h.0 number h.1) ∙ s.1),
    )

    pub one_beside : (number : ℕ) → StandOnce begins ends → AreCandidates [] ends zones place (candidates.One number) → AreCandidates begins ends zones place (candidates.Several first number)
    one_beside number once h = beside number once h.0

    pub two_beside : (number other : ℕ) → StandOnce begins ends → AreCandidates [] ends zones place (candidates.Several number other) → AreCandidates begins ends zones place (candidates.Several first number)
    two_beside number other once h = beside number once h.0
